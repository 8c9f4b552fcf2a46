use Rattle.std.proofs.Common.{◌≡◌, ◌<◌, List, Vec, length, Option, Some, [], ap, subst, sym, ◌∙◌, refl, arith}
use Rattle.std.specs.Prelude.{slice_get, unwrap_or, ℕ}
use Rattle.std.specs.Global.{Global}
use Rattle.coll_parser.specs.declared.request.Request as rust
use Rattle.coll_parser.specs.declared.request.Start as rust_start
use Rattle.coll_parser.specs.Requests.{Request}
use Rattle.coll_parser.specs.Code.{rows_view, givens}
use Rattle.coll_parser.proofs.Lists.{slice_get-view}
use Rattle.coll_script.specs.Meaning.{given_by}
use Rattle.coll_script.specs.PostingViews.{list_view, lists_view}
use Rattle.coll_script.proofs.Loops.{map-more, drop-view}
use Rattle.coll_script.proofs.Posted.{map-push}
use Rattle.coll_script.proofs.Valued.{length-givens, have_start-at, place-within, request-at}
use Rattle.coll_script.proofs.evaluation.given_at.Goals as goal

pub index-requires : goal.index-requires
index-requires c =
    let found = have_start-at c.args.lists.now c.args.place c.args.start c.loop-list.list-index c.list-item.result c.requires
    c.loop-list-test.true c.list-item.is in
    let lt = place-within c.list-item.result.items c.args.place found.0 found.1 in
    omega (arith, lt, c.list-item.result.ok)

pub index-requires-in-loop-list : goal.index-requires-in-loop-list
index-requires-in-loop-list c =
    let found = have_start-at c.args.lists.now c.args.place c.args.start c.loop-list.list-index c.list-item.result c.requires
    c.loop-list-test.true c.list-item.is in
    let same = request-at c.list-item.result.items c.args.place found.0 c.index.result.now found.1 c.index.ensures in
    let lt : c.args.start < length (givens c.index.result.now.starts.items) = subst (λ (p : Request). c.args.start < length p.starts) same found.2 in
    let len = length-givens c.index.result.now.starts.items in
    omega (arith, lt, len, c.index.result.now.starts.ok)

pub loop-list-preserved : goal.loop-list-preserved
loop-list-preserved c =
    let found = have_start-at c.args.lists.now c.args.place c.args.start c.loop-list.list-index c.list-item.result c.requires
    c.loop-list-test.true c.list-item.is in
    let same = request-at c.list-item.result.items c.args.place found.0 c.index.result.now found.1 c.index.ensures in
    let lt : c.args.start < length (givens c.index.result.now.starts.items) = subst (λ (p : Request). c.args.start < length p.starts) same found.2 in
    let len = length-givens c.index.result.now.starts.items in
    let row : c.in_ok-from_slice.field-0.items ≡ given_by c.args.start (slice_get (list_view c.list-item.result.items) c.args.place) =
    c.in_ok-from_slice.ensures.items
    ∙ ap (λ (o : Option (List ℕ)). unwrap_or o [])
    (sym (slice_get-view (λ (s : rust_start.Start). s.given.now) c.index.result.now.starts.items c.args.start
    c.index-in-loop-list.result.now (omega (arith, lt, len)) c.index-in-loop-list.ensures))
    ∙ ap (λ (p : Request). given_by c.args.start (Some p)) (sym same) ∙ ap (given_by c.args.start) (sym found.1) in
    rw (
      c.in_ok-push.ensures.items,
      map-push (λ (v : Vec ℕ Global). v.items) c.loop-list.rows.items c.in_ok-from_slice.field-0 c.in_ok-from_slice.field-0.items refl,
    )
    (map-more (λ (list : List Request). given_by c.args.start (slice_get list c.args.place)) (lists_view c.args.lists.now)
    c.loop-list.list-index (list_view c.list-item.result.items) (rows_view c.loop-list.rows.items) _ c.in_ok-from_slice.field-0.items
    (drop-view (λ (l : Vec rust.Request Global). list_view l.items) c.args.lists.now c.loop-list.list-index c.list-item.result
    c.loop-list-test.true c.list-item.is) row c.loop-list.invariant)
