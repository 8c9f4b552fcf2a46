use Rattle.std.proofs.Common.{◌≡◌, Bool, true, false, ◌&&◌, eqb, length, get_or, ap, ◌∙◌, sym, drop, ◌+◌, arith}
use Rattle.std.proofs.lemmas.Bool.{eq-eqb}
use Rattle.coll_parser.specs.Code.{request_view}
use Rattle.coll_script.specs.Matching.{started_alike}
use Rattle.coll_script.specs.PostingViews.{list_view}
use Rattle.coll_script.proofs.Loops.{drop-view}
use Rattle.coll_script.proofs.Matched.{length-list_view, started-more, started-done, eqb-ne, length-starts}
use Rattle.coll_script.proofs.matching.started_alike.Goals as goal

pub returns-then-len : goal.returns-then-len
returns-then-len c =
    let one = drop-view request_view c.args.first.now c.loop-place.place c.index-first-place.result
    (omega (arith, c.loop-place-test.true, c.min-place-end.ensures)) c.index-first-place.is in
    let other = drop-view request_view c.args.list.now c.loop-place.place c.index-list-place.result
    (omega (arith, c.loop-place-test.true, c.min-place-end.ensures)) c.index-list-place.is in
    let so_far =
    started-more (list_view c.args.first.now) (list_view c.args.list.now) c.loop-place.place
    (request_view c.index-first-place.result) (request_view c.index-list-place.result) _ one other c.loop-place.invariant in
    let here : eqb (length (request_view c.index-list-place.result).starts) (length (request_view c.index-first-place.result).starts) ≡ false =
    eqb-ne _ _ (λ e. c.if-len.true (sym (length-starts c.index-list-place.result
    (get_or c.args.list.now c.loop-place.place c.index-list-place.result) c.len.result c.index-list-place.is c.len.ensures)
    ∙ e ∙ length-starts c.index-first-place.result (get_or c.args.first.now c.loop-place.place c.index-first-place.result)
    c.len-in-loop-place.result c.index-first-place.is c.len-in-loop-place.ensures)) in
    sym (ap (λ (b : Bool). b && started_alike (drop (c.loop-place.place + 1) (list_view c.args.first.now))
    (drop (c.loop-place.place + 1) (list_view c.args.list.now))) here) ∙ so_far

pub loop-place-preserved : goal.loop-place-preserved
loop-place-preserved c =
    let one = drop-view request_view c.args.first.now c.loop-place.place c.index-first-place.result
    (omega (arith, c.loop-place-test.true, c.min-place-end.ensures)) c.index-first-place.is in
    let other = drop-view request_view c.args.list.now c.loop-place.place c.index-list-place.result
    (omega (arith, c.loop-place-test.true, c.min-place-end.ensures)) c.index-list-place.is in
    let so_far =
    started-more (list_view c.args.first.now) (list_view c.args.list.now) c.loop-place.place
    (request_view c.index-first-place.result) (request_view c.index-list-place.result) _ one other c.loop-place.invariant in
    let here : eqb (length (request_view c.index-list-place.result).starts) (length (request_view c.index-first-place.result).starts) ≡ true =
    eq-eqb _ _ (length-starts c.index-list-place.result (get_or c.args.list.now c.loop-place.place c.index-list-place.result)
    c.len.result c.index-list-place.is c.len.ensures ∙ c.if-len.false
    ∙ sym (length-starts c.index-first-place.result (get_or c.args.first.now c.loop-place.place c.index-first-place.result)
    c.len-in-loop-place.result c.index-first-place.is c.len-in-loop-place.ensures)) in
    sym (ap (λ (b : Bool). b && started_alike (drop (c.loop-place.place + 1) (list_view c.args.first.now))
    (drop (c.loop-place.place + 1) (list_view c.args.list.now))) here) ∙ so_far

pub returns : goal.returns
returns c =
    started-done (list_view c.args.first.now) (list_view c.args.list.now) c.loop-place.place c.min-place-end.result _
    (rw (length-list_view c.args.first.now, length-list_view c.args.list.now) c.min-place-end.ensures) c.loop-place-test.false c.loop-place.invariant
