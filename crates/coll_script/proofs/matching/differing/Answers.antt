use Rattle.std.proofs.Common.{Vec, List, ap, ◌∙◌}
use Rattle.std.specs.Prelude.{slice_get}
use Rattle.std.specs.Global.{Global}
use Rattle.coll_parser.specs.declared.request.Request as rust
use Rattle.coll_script.specs.Matching.{differing_from, least}
use Rattle.coll_script.specs.PostingViews.{list_view, lists_view}
use Rattle.coll_script.proofs.Loops.{drop-view}
use Rattle.coll_script.proofs.Matched.{least-more}
use Rattle.coll_script.proofs.matching.differing.Goals as goal

pub loop-list-preserved : goal.loop-list-preserved
loop-list-preserved c =
    least-more (differing_from (slice_get c.args.firsts.now) 0) (lists_view c.args.lists.now) c.loop-list.list-index
    (list_view c.list-item.result.items) c.loop-list.line _ _
    (drop-view (λ (list : Vec rust.Request Global). list_view list.items) c.args.lists.now c.loop-list.list-index
    c.list-item.result c.loop-list-test.true c.list-item.is)
    (c.differing_in-line.ensures
    ∙ ap (λ (list : List rust.Request). least c.loop-list.line (differing_from (slice_get c.args.firsts.now) 0 (list_view list))) c.deref.ensures.value)
    c.loop-list.invariant
