use Rattle.std.proofs.Common.{subst}
use Rattle.std.specs.Prelude.{IsTrue, is_ok}
use Rattle.coll_core.specs.Steps.{IsOut}
use Rattle.coll_traced.specs.Traced.{Traced}
use Rattle.coll_traced.proofs.Keepers.{commit_own_ended}
use Rattle.coll_traced.proofs.traced_core.TracedCore.commit.Goals as goal

pub invariant_of-self : goal.invariant_of-self
invariant_of-self g c =
    let s = c.self.inside in (
      commit_own_ended s.config s.core c.commit.new.self s.trace.entries s.trace.reserved c.args.done.piece c.commit.result
          c.self.invariant.0 c.commit.ensures.own c.commit.ensures.err,
      c.self.invariant.1,
    )

pub returns-clause-out : goal.returns-clause-out
returns-clause-out g c = subst (λ (h : Traced). IsOut h.core c.args.done.piece → IsTrue (is_ok c.commit.result)) c.self.view_is c.commit.ensures.out
