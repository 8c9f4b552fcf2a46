use Rattle.std.proofs.Common.{◌≡◌, ◌++◌, ◌∷◌, [], ℕ, List, Vec, Global, sym, ap, subst, ◌∙◌}
use Rattle.coll_verdict.proofs.Listed.{take_whole}
use Rattle.coll_cases.specs.Code.{HasList}
use Rattle.coll_cases.proofs.Covering.{both_more}
use Rattle.coll_cases.proofs.outcomes.with_and_without.Goals as goal

pub loop-list-preserved : goal.loop-list-preserved
loop-list-preserved c =
    let copy = c.in_ok-from_slice.field-0 in
    let longer = c.push-in-loop-list.new.self in
    let same : copy.items ≡ c.list-item.result.items = c.in_ok-from_slice.ensures.items ∙ c.deref.ensures.value in
    let long : longer.items ≡ c.list-item.result.items ++ c.args.request ∷ [] =
    c.in_ok-push-2.ensures.items
    ∙ ap (λ (qs : List ℕ). qs ++ c.args.request ∷ []) (c.in_ok-longer.ensures.items ∙ c.deref-in-loop-list.ensures.value) in
    let lists : c.push-in-loop-list-2.new.self.items ≡ (c.loop-list.more.items ++ copy ∷ []) ++ longer ∷ [] =
    c.in_ok-push-3.ensures.items ∙ ap (λ (lists : List (Vec ℕ Global)). lists ++ longer ∷ []) c.in_ok-push.ensures.items in
    record {
      without = λ qs has. subst (λ (lists : List (Vec ℕ Global)). HasList lists qs) (sym lists)
          (both_more c.args.lists.now c.loop-list.more.items c.loop-list.list-index c.list-item.result copy longer c.args.request c.loop-list-test.true
          c.list-item.is same long c.loop-list.invariant.without c.loop-list.invariant.joined qs has).0;
      joined = λ qs has. subst (λ (lists : List (Vec ℕ Global)). HasList lists (qs ++ c.args.request ∷ [])) (sym lists)
          (both_more c.args.lists.now c.loop-list.more.items c.loop-list.list-index c.list-item.result copy longer c.args.request c.loop-list-test.true
          c.list-item.is same long c.loop-list.invariant.without c.loop-list.invariant.joined qs has).1;
    }

pub returns-clause-without : goal.returns-clause-without
returns-clause-without c = λ qs has. c.loop-list.invariant.without qs
    (subst (λ (lists : List (Vec ℕ Global)). HasList lists qs) (sym (take_whole c.args.lists.now c.loop-list.list-index c.loop-list-test.false)) has)

pub returns-clause-joined : goal.returns-clause-joined
returns-clause-joined c = λ qs has. c.loop-list.invariant.joined qs
    (subst (λ (lists : List (Vec ℕ Global)). HasList lists qs) (sym (take_whole c.args.lists.now c.loop-list.list-index c.loop-list-test.false)) has)
