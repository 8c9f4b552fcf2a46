use Rattle.std.proofs.Common.{◌≡◌, List, Vec, length, ap, subst, sym, ◌∙◌, refl}
use Rattle.std.specs.Global.{Global}
use Rattle.coll_parser.specs.declared.request.Request as rust
use Rattle.coll_parser.specs.Requests.{Request}
use Rattle.coll_parser.proofs.Lists.{AllByRecursion-read}
use Rattle.coll_script.specs.declared.values.MemberValues.{MemberValues}
use Rattle.coll_script.specs.Outcomes.{AreMatched, group_values, group_view, values_view}
use Rattle.coll_script.specs.PostingViews.{lists_view, all_lists_view}
use Rattle.coll_script.proofs.Loops.{map-more, drop-view, at-view}
use Rattle.coll_script.proofs.Posted.{map-push}
use Rattle.coll_script.proofs.Valued.{length-lists_view}
use Rattle.coll_script.proofs.evaluation.all_values.Goals as goal

pub group_values-requires : goal.group_values-requires
group_values-requires c =
    let lists = c.lists-item.result.items in
    let here = at-view (λ (v : Vec (Vec rust.Request Global) Global). lists_view v.items) c.args.all.now c.loop-lists.lists-index
    c.lists-item.result c.loop-lists-test.true c.lists-item.is in
    let all = AllByRecursion-read (λ (l : List (List Request)). AreMatched (length l) l) (all_lists_view c.args.all.now)
    c.loop-lists.lists-index (lists_view lists) c.requires here.0 in
    let matched : AreMatched (length (lists_view lists)) (lists_view lists) = subst (λ (l : List (List Request)). AreMatched (length l) l) (sym here.1) all in
    subst (λ (l : List (Vec rust.Request Global)). AreMatched (length l) (lists_view l)) (sym c.deref.ensures.value)
    (subst (λ n. AreMatched n (lists_view lists)) (length-lists_view lists) matched)

pub loop-lists-preserved : goal.loop-lists-preserved
loop-lists-preserved c =
    let made : group_view c.in_ok-group_values.field-0.items ≡ group_values (lists_view c.lists-item.result.items) =
    c.in_ok-group_values.ensures.ok ∙ ap (λ (l : List (Vec rust.Request Global)). group_values (lists_view l)) c.deref.ensures.value in
    rw (
      c.in_ok-push.ensures.items,
      map-push (λ (places : Vec (Vec MemberValues Global) Global). group_view places.items) c.loop-lists.groups.items
          c.in_ok-group_values.field-0 (group_view c.in_ok-group_values.field-0.items) refl,
    )
    (map-more group_values (all_lists_view c.args.all.now) c.loop-lists.lists-index (lists_view c.lists-item.result.items)
    (values_view c.loop-lists.groups.items) _ (group_view c.in_ok-group_values.field-0.items)
    (drop-view (λ (v : Vec (Vec rust.Request Global) Global). lists_view v.items) c.args.all.now c.loop-lists.lists-index
    c.lists-item.result c.loop-lists-test.true c.lists-item.is) made c.loop-lists.invariant)
