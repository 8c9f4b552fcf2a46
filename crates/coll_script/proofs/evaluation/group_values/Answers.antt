use Rattle.std.proofs.Common.{◌≡◌, List, Vec, drop, ap, sym, ◌∙◌, refl}
use Rattle.std.specs.Prelude.{◌+◌, ◌∷◌, slice_get}
use Rattle.std.specs.Global.{Global}
use Rattle.coll_parser.specs.Requests.{Request}
use Rattle.coll_parser.specs.Code.{request_view}
use Rattle.coll_parser.proofs.Lists.{slice_get-view}
use Rattle.coll_script.specs.Matching.{first_list}
use Rattle.coll_script.specs.declared.values.MemberValues.{MemberValues}
use Rattle.coll_script.specs.Outcomes.{place_view, group_view}
use Rattle.coll_script.specs.PostingViews.{list_view, lists_view}
use Rattle.coll_script.proofs.Posted.{map-push}
use Rattle.coll_script.proofs.Loops.{drop-view}
use Rattle.coll_script.proofs.Matched.{first_list-view}
use Rattle.coll_script.proofs.Valued.{values_from-more, not-empty}
use Rattle.coll_script.proofs.evaluation.group_values.Goals as goal

pub place_values-requires-clause-there : goal.place_values-requires-clause-there
place_values-requires-clause-there c =
    let first : first_list (lists_view c.args.lists.now) ≡ list_view c.deref-request-items.result.now =
    first_list-view c.args.lists.now c.index-lists-0.result
    (not-empty c.args.lists.now c.is_empty.result c.is_empty.ensures c.if-is_empty.false) c.index-lists-0.is
    ∙ ap list_view (sym c.deref-request-items.ensures.value) in
    ap (λ (l : List Request). slice_get l c.loop-place.place) first
    ∙ slice_get-view request_view c.deref-request-items.result.now c.loop-place.place c.request-item.result c.loop-place-test.true c.request-item.is

pub loop-place-preserved : goal.loop-place-preserved
loop-place-preserved c =
    let lists = lists_view c.args.lists.now in
    let first : first_list lists ≡ list_view c.deref-request-items.result.now =
    first_list-view c.args.lists.now c.index-lists-0.result
    (not-empty c.args.lists.now c.is_empty.result c.is_empty.ensures c.if-is_empty.false) c.index-lists-0.is
    ∙ ap list_view (sym c.deref-request-items.ensures.value) in
    let front : drop c.loop-place.place (first_list lists) ≡ request_view c.request-item.result ∷ drop (c.loop-place.place + 1) (first_list lists) =
    ap (drop c.loop-place.place) first
    ∙ drop-view request_view c.deref-request-items.result.now c.loop-place.place c.request-item.result c.loop-place-test.true c.request-item.is
    ∙ ap (λ (l : List Request). request_view c.request-item.result ∷ drop (c.loop-place.place + 1) l) (sym first) in
    rw (
      c.in_ok-push.ensures.items,
      map-push (λ (starts : Vec MemberValues Global). place_view starts.items) c.loop-place.places.items
          c.in_ok-place_values.field-0 (place_view c.in_ok-place_values.field-0.items) refl,
    )
    (values_from-more lists c.loop-place.place (first_list lists) (request_view c.request-item.result)
    (group_view c.loop-place.places.items) _ (place_view c.in_ok-place_values.field-0.items) front c.in_ok-place_values.ensures.ok c.loop-place.invariant)
