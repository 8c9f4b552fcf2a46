use Rattle.std.proofs.Common.{◌≡◌, ℕ, ◌<◌, length, List, Vec, ap, sym, subst, ◌∙◌, refl}
use Rattle.std.specs.Prelude.{slice_index}
use Rattle.std.specs.Global.{Global}
use Rattle.coll_parser.specs.declared.request.Request as rust
use Rattle.coll_parser.specs.Code.{rows_view, requests_view}
use Rattle.coll_parser.proofs.Lists.{AllByRecursion-read}
use Rattle.coll_script.specs.Postings.{postings}
use Rattle.coll_script.specs.PostingViews.{lists_view, all_lists_view}
use Rattle.coll_script.proofs.Posted.{map-push, postings_from-more}
use Rattle.coll_script.proofs.Loops.{drop-view, at-view}
use Rattle.coll_script.proofs.postings.all_postings.Goals as goal

pub postings-requires : goal.postings-requires
postings-requires c =
    let here = at-view (λ (row : Vec ℕ Global). row.items) c.args.groups.now c.loop-comm.comm c.index-groups-comm.result
    c.loop-comm-test.true c.index-groups-comm.is in
    let all = AllByRecursion-read
    (λ (group : List ℕ). (m : ℕ) → m < length group → slice_index group m < length c.args.ranks.now)
    (rows_view c.args.groups.now) c.loop-comm.comm c.index-groups-comm.result.items c.requires.members here.0 in
    subst (λ (group : List ℕ). (m : ℕ) → m < length group → slice_index group m < length c.args.ranks.now) (sym here.1 ∙ sym c.deref.ensures.value) all

pub loop-comm-preserved : goal.loop-comm-preserved
loop-comm-preserved c =
    let view = λ (lists : Vec (Vec rust.Request Global) Global). lists_view lists.items in
    let made : lists_view c.in_ok-postings.field-0.items ≡ postings (requests_view c.args.ranks.now) c.loop-comm.comm c.index-groups-comm.result.items =
    c.in_ok-postings.ensures ∙ ap (postings (requests_view c.args.ranks.now) c.loop-comm.comm) c.deref.ensures.value in
    rw (
      c.in_ok-push.ensures.items,
      map-push (λ (lists : Vec (Vec rust.Request Global) Global). lists_view lists.items) c.loop-comm.all.items
          c.in_ok-postings.field-0 (lists_view c.in_ok-postings.field-0.items) refl,
    )
    (postings_from-more (requests_view c.args.ranks.now) c.loop-comm.comm (rows_view c.args.groups.now)
    c.index-groups-comm.result.items (all_lists_view c.loop-comm.all.items) _ (lists_view c.in_ok-postings.field-0.items)
    (drop-view (λ (row : Vec ℕ Global). row.items) c.args.groups.now c.loop-comm.comm c.index-groups-comm.result c.loop-comm-test.true c.index-groups-comm.is)
    made c.loop-comm.invariant)
