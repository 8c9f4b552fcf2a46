use Rattle.std.proofs.Common.{subst}
use Rattle.std.specs.Prelude.{◌↔◌, IsTrue, is_ok}
use Rattle.coll_core.specs.Steps.{IsOut}
use Rattle.coll_traced.specs.Traced.{Traced}
use Rattle.coll_traced.proofs.Keepers.{abandon_ended}
use Rattle.coll_traced.proofs.traced_core.TracedCore.abandon.Goals as goal

pub invariant_of-self : goal.invariant_of-self
invariant_of-self g c =
    let s = c.self.inside in (
      abandon_ended s.config s.core c.abandon.new.self s.trace.entries s.trace.reserved c.args.work c.abandon.result
          c.self.invariant.0 c.abandon.ensures.back c.abandon.ensures.err,
      c.self.invariant.1,
    )

pub returns-clause-out : goal.returns-clause-out
returns-clause-out g c = subst (λ (h : Traced). IsTrue (is_ok c.abandon.result) ↔ IsOut h.core c.args.work) c.self.view_is c.abandon.ensures.out
