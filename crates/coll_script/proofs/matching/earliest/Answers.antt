use Rattle.std.proofs.Common.{Vec, List, ap, ◌∙◌}
use Rattle.std.specs.Prelude.{slice_get}
use Rattle.std.specs.Global.{Global}
use Rattle.coll_parser.specs.declared.request.Request as rust
use Rattle.coll_script.specs.Matching.{first_at, earlier}
use Rattle.coll_script.specs.PostingViews.{list_view, lists_view}
use Rattle.coll_script.proofs.Loops.{drop-view}
use Rattle.coll_script.proofs.Matched.{earliest-more}
use Rattle.coll_script.proofs.matching.earliest.Goals as goal

pub loop-list-preserved : goal.loop-list-preserved
loop-list-preserved c place =
    earliest-more (lists_view c.args.lists.now) c.loop-list.list-index place (list_view c.list-item.result.items) (slice_get c.loop-list.firsts.items place) _ _
    (drop-view (λ (list : Vec rust.Request Global). list_view list.items) c.args.lists.now c.loop-list.list-index
    c.list-item.result c.loop-list-test.true c.list-item.is)
    (c.in_ok-keep_earlier.ensures place
    ∙ ap (λ (list : List rust.Request). earlier (slice_get c.loop-list.firsts.items place) (first_at (list_view list) place)) c.deref.ensures.value)
    (c.loop-list.invariant place)
