use Rattle.std.proofs.Common.{◌∷◌, [], ℕ, List, Vec, Global, sym, subst}
use Rattle.coll_cases.specs.Code.{HasList}
use Rattle.coll_cases.proofs.Covering.{has_last, has_more, test_covers}
use Rattle.coll_cases.proofs.outcomes.test_outcomes.Goals as goal

pub returns : goal.returns
returns c =
    test_covers c.args.known.now c.args.request c.push-2.new.self.items
    (subst (λ (lists : List (Vec ℕ Global)). HasList lists []) (sym c.in_ok-push-2.ensures.items)
    (has_more c.push.new.self.items (c.in_ok-single.field-0 ∷ []) []
    (subst (λ (lists : List (Vec ℕ Global)). HasList lists []) (sym c.in_ok-push.ensures.items)
    (has_last c.new-outcomes.result.items c.new.result [] c.new.ensures.items))))
    (subst (λ (lists : List (Vec ℕ Global)). HasList lists (c.args.request ∷ [])) (sym c.in_ok-push-2.ensures.items)
    (has_last c.push.new.self.items c.in_ok-single.field-0 (c.args.request ∷ []) c.in_ok-single.ensures))
