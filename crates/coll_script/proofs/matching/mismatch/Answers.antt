use Rattle.std.proofs.Common.{Vec, List, ℕ, Option, ap, ◌∙◌}
use Rattle.std.specs.Prelude.{slice_get, None, flat_map}
use Rattle.std.specs.Global.{Global}
use Rattle.coll_parser.specs.declared.request.Request as rust
use Rattle.coll_script.specs.declared.first.Earliest.{Earliest}
use Rattle.coll_script.specs.Matching.{earliest, differing_from, differing, least}
use Rattle.coll_script.specs.PostingViews.{lists_view, all_lists_view}
use Rattle.coll_script.proofs.Loops.{drop-view}
use Rattle.coll_script.proofs.Matched.{least-more}
use Rattle.coll_script.proofs.matching.mismatch.Goals as goal

pub loop-lists-preserved : goal.loop-lists-preserved
loop-lists-preserved c =
    least-more differing (all_lists_view c.args.all.now) c.loop-lists.lists-index (lists_view c.lists-item.result.items) c.loop-lists.line _ _
    (drop-view (λ (lists : Vec (Vec rust.Request Global) Global). lists_view lists.items) c.args.all.now c.loop-lists.lists-index
    c.lists-item.result c.loop-lists-test.true c.lists-item.is)
    (c.differing-line.ensures
    ∙ ap (λ (lists : List (Vec rust.Request Global)). least c.loop-lists.line
    (flat_map (differing_from (slice_get c.deref-in-loop-lists.result.now) 0) (lists_view lists))) c.deref-in-loop-lists-2.ensures.value
    ∙ ap (λ (firsts : List Earliest). least c.loop-lists.line (flat_map (differing_from (slice_get firsts) 0) (lists_view c.lists-item.result.items)))
    c.deref-in-loop-lists.ensures.value
    ∙ ap (λ (first : ℕ → Option Earliest). least c.loop-lists.line (flat_map (differing_from first 0) (lists_view c.lists-item.result.items)))
    (λ i place. (c.in_ok-firsts.ensures place ∙ ap (λ (lists : List (Vec rust.Request Global)). earliest None place (lists_view lists)) c.deref.ensures.value)
    i))
    c.loop-lists.invariant
