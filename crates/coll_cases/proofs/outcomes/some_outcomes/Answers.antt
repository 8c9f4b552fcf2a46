use Rattle.std.proofs.Common.{ℕ, List, filter, subst, ◌∙◌}
use Rattle.coll_cases.specs.Code.{HasList}
use Rattle.coll_cases.proofs.Covering.{some_covers}
use Rattle.coll_cases.proofs.outcomes.some_outcomes.Goals as goal

pub returns : goal.returns
returns c =
    let is = rw c.in-Some.is at c.in_ok-active.ensures in
    some_covers c.args.known.now c.args.named.now c.in_ok-outcomes.outcomes.items
    (λ f. subst (λ (qs : List ℕ). HasList c.in_ok-outcomes.outcomes.items (filter f qs)) (c.deref.ensures.value ∙ is) (c.in_ok-outcomes.ensures f))
