use Rattle.std.proofs.Common.{◌≡◌, length, map, ap, sym, ◌∙◌, refl, arith}
use Rattle.std.specs.List.{range_with_len}
use Rattle.coll_ops.specs.Values.{value}
use Rattle.coll_parser.specs.Code.{request_view}
use Rattle.coll_script.specs.Meaning.{given_at}
use Rattle.coll_script.specs.Outcomes.{start_values, members_view, place_view}
use Rattle.coll_script.specs.PostingViews.{lists_view}
use Rattle.coll_script.proofs.Loops.{map_range-more}
use Rattle.coll_script.proofs.Posted.{map-push}
use Rattle.coll_script.proofs.Valued.{length-lists_view, length-givens, HaveStart-matched, broken-matched, AreGiven-matched}
use Rattle.coll_script.proofs.evaluation.place_values.Goals as goal

pub start_values-requires-clause-checked : goal.start_values-requires-clause-checked
start_values-requires-clause-checked c =
    broken-matched (length c.args.lists.now) c.args.place (lists_view c.args.lists.now) (request_view c.args.request.now) c.requires.matched c.requires.there

pub start_values-requires-clause-starts : goal.start_values-requires-clause-starts
start_values-requires-clause-starts c =
    let len = length-givens c.args.request.now.starts.items in
    HaveStart-matched (length c.args.lists.now) c.args.place c.loop-start.start (lists_view c.args.lists.now)
    (request_view c.args.request.now) c.requires.matched c.requires.there
    (omega (arith, c.loop-start-test.true, c.len-start-end.ensures, c.args.request.now.starts.ok, len))

pub start_values-requires-clause-given : goal.start_values-requires-clause-given
start_values-requires-clause-given c =
    let len = length-givens c.args.request.now.starts.items in
    AreGiven-matched (length c.args.lists.now) c.args.place c.loop-start.start (lists_view c.args.lists.now)
    (request_view c.args.request.now) c.requires.matched c.requires.there
    (omega (arith, c.loop-start-test.true, c.len-start-end.ensures, c.args.request.now.starts.ok, len))

pub loop-start-preserved : goal.loop-start-preserved
loop-start-preserved c =
    let p = request_view c.args.request.now in
    let lists = lists_view c.args.lists.now in
    let made : members_view c.in_ok-start_values.field-0 ≡ start_values lists c.args.place p c.loop-start.start =
    c.in_ok-start_values.ensures.ok
    ∙ ap (λ n. map (value p.sig (given_at lists c.args.place c.loop-start.start)) (range_with_len 0 n)) (sym (length-lists_view c.args.lists.now)) in
    rw (
      c.in_ok-push.ensures.items,
      map-push members_view c.loop-start.starts.items c.in_ok-start_values.field-0 (members_view c.in_ok-start_values.field-0) refl,
    )
    (map_range-more (start_values lists c.args.place p) (length c.args.request.now.starts.items) c.loop-start.start
    (place_view c.loop-start.starts.items) _ (members_view c.in_ok-start_values.field-0)
    (omega (arith, c.loop-start-test.true, c.len-start-end.ensures, c.args.request.now.starts.ok)) made c.loop-start.invariant)
