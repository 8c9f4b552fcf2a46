use Rattle.std.proofs.Common.{subst}
use Rattle.std.specs.Prelude.{◌↔◌, IsTrue, is_some}
use Rattle.coll_core.specs.Steps.{CombinesShort}
use Rattle.coll_traced.specs.Traced.{Traced}
use Rattle.coll_traced.proofs.Keepers.{handed_out}
use Rattle.coll_traced.proofs.traced_core.TracedCore.hand_out_short.Goals as goal

pub invariant_of-self : goal.invariant_of-self
invariant_of-self g c =
    let s = c.self.inside in (
      handed_out s.config s.core c.hand_out_short.new.self s.trace.entries s.trace.reserved c.hand_out_short.result
          c.self.invariant.0 c.hand_out_short.ensures.out c.hand_out_short.ensures.none,
      c.self.invariant.1,
    )

pub returns-clause-short : goal.returns-clause-short
returns-clause-short g c = subst (λ (h : Traced). IsTrue (is_some c.hand_out_short.result) ↔ CombinesShort h.core) c.self.view_is c.hand_out_short.ensures.short
