use Rattle.std.proofs.Common.{◌≡◌, ◌∙◌, ℕ, inr, refl, subst, sym, ap}
use Rattle.std.proofs.lemmas.Bool.{false≢true}
use Rattle.coll_machine.specs.Common.{Setting}
use Rattle.coll_core.specs.Cores.{setting}
use Rattle.coll_traced.specs.Closings.{AreEnds}
use Rattle.coll_traced.specs.Traced.{Traced}
use Rattle.coll_traced.proofs.Closings.{wrong_end}
use Rattle.coll_traced.proofs.traced_core.TracedCore.objection.Goals as goal

pub returns-then-not-has_ends-clause-refused : goal.returns-then-not-has_ends-clause-refused
returns-then-not-has_ends-clause-refused g c =
    let t = c.args.self.now in
    let ranks = ap (λ (s : Setting). s.ranks) c.ranks-ranks.ensures.setting ∙ sym c.ranks-ranks.ensures.ranks in
    let entries = ap (λ (h : Traced). h.entries) (sym c.self.view_is) in
    inr (
      c.in_default.ensures.none refl,
      (λ ends.
          let traced = subst (λ es. AreEnds (setting t.core).ranks es c.args.ends.now) entries ends in
          let there = subst (λ n. AreEnds n c.self.inside.trace.entries c.args.ends.now) ranks traced in
          false≢true (wrong_end c.has_ends.result c.has_ends.ensures c.if-not-has_ends.true there)),
      refl,
    )
