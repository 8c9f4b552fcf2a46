use Rattle.std.proofs.Common.{ap, arith, sym, ◌∙◌}
use Rattle.std.specs.Prelude.{Some}
use Rattle.std.specs.Option.{option_map}
use Rattle.coll_parser.specs.Code.{request_view}
use Rattle.coll_parser.proofs.Lists.{slice_get-view}
use Rattle.coll_script.specs.Matching.{first_of}
use Rattle.coll_script.specs.PostingViews.{list_view}
use Rattle.coll_script.proofs.Matched.{length-list_view, KeepsUpTo-more, KeepsUpTo-all}
use Rattle.coll_script.proofs.matching.keep_earlier.Goals as goal

pub loop-place-preserved : goal.loop-place-preserved
loop-place-preserved c =
    KeepsUpTo-more c.loop-place.place (list_view c.args.list.now) c.args.firsts.now.items c.loop-place.firsts.items c.keep_at.new.firsts.items c.first_of.result
    (ap (option_map first_of)
    (slice_get-view request_view c.args.list.now c.loop-place.place c.index-list-place.result c.loop-place-test.true c.index-list-place.is)
    ∙ ap Some (sym c.first_of.ensures))
    c.loop-place.invariant c.in_ok-keep_at.ensures

pub returns : goal.returns
returns c =
    let len = length-list_view c.args.list.now in
    KeepsUpTo-all c.loop-place.place (list_view c.args.list.now) c.args.firsts.now.items c.loop-place.firsts.items
    (omega (arith, c.loop-place-test.false)) c.loop-place.invariant
