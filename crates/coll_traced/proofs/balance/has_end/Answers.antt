use Rattle.std.proofs.Common.{ℕ, ◌<◌, ◌∙◌, Contains, length, refl, sym, subst, below_more, arith}
use Rattle.std.proofs.lemmas.Bool.{false≢true}
use Rattle.std.proofs.lemmas.List.{get_or_default}
use Rattle.std.proofs.lemmas.List.Elements.{Contains-get_or}
use Rattle.coll_traced.proofs.Closings.{wrong_end}
use Rattle.coll_traced.proofs.balance.has_end.Goals as goal

pub returns-then-is_end : goal.returns-then-is_end
returns-then-is_end g c =
    let xs = c.args.spents.now in
    let lt : c.loop-spent.spent-index < length xs = omega arith in (
      λ yes.
          let found = Contains-get_or xs c.loop-spent.spent-index c.spent-item.result lt in
          subst (Contains xs) (sym c.spent-item.is ∙ c.is_end.ensures.0 c.if-is_end.true) found,
      λ has. refl,
    )

pub loop-spent-preserved : goal.loop-spent-preserved
loop-spent-preserved g c =
    let xs = c.args.spents.now in
    let it : ℕ × ℕ = (c.args.rank, c.args.made) in
    let lt : c.loop-spent.spent-index < length xs = omega arith in
    below_more _ _ c.loop-spent.invariant
    (λ e.
    let is = c.spent-item.is ∙ (get_or_default xs c.loop-spent.spent-index c.spent-item.result it lt ∙ e) in
    false≢true (wrong_end c.is_end.result c.is_end.ensures c.if-is_end.false is))

pub returns : goal.returns
returns g c = (λ e. absurd (false≢true e), λ has. absurd (c.loop-spent.invariant has.0 (omega (arith, has.1)) has.2))
