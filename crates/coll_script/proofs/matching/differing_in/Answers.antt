use Rattle.std.proofs.Common.{Bool, cond, ap, ◌∙◌}
use Rattle.std.specs.Prelude.{slice_get}
use Rattle.coll_parser.specs.Code.{request_view}
use Rattle.coll_script.specs.Matching.{lower}
use Rattle.coll_script.specs.PostingViews.{list_view}
use Rattle.coll_script.proofs.Loops.{drop-view}
use Rattle.coll_script.proofs.Matched.{differing-more}
use Rattle.coll_script.proofs.matching.differing_in.Goals as goal

pub loop-place-preserved : goal.loop-place-preserved
loop-place-preserved c =
    differing-more (slice_get c.args.firsts.now) (list_view c.args.list.now) c.loop-place.place (request_view c.index-list-place.result) c.loop-place.line _ _
    (drop-view request_view c.args.list.now c.loop-place.place c.index-list-place.result c.loop-place-test.true c.index-list-place.is)
    (c.lower_unless-line.ensures ∙ ap (λ (b : Bool). cond b c.loop-place.line (lower c.loop-place.line c.index-list-place.result.line)) c.agrees.ensures)
    c.loop-place.invariant
