use Rattle.std.proofs.Common.{◌≡◌, ◌<◌, ◌+◌, ◌++◌, length, map, take, set, get_or, ap, ◌∙◌, arith}
use Rattle.std.specs.Prelude.{slice_index}
use Rattle.std.proofs.lemmas.List.{length-map, length-set, length-take}
use Rattle.std.proofs.lemmas.Result.{err_from_is_err_and}
use Rattle.coll_parser.specs.Code.{request_view}
use Rattle.coll_script.specs.Postings.{posted_on}
use Rattle.coll_run.specs.Index.{IsFew, handed_in}
use Rattle.coll_run.specs.Lines.{told_request}
use Rattle.coll_script.proofs.Counting.{counted-more, length-posted_on}
use Rattle.coll_script.proofs.Loops.{drop-view}
use Rattle.coll_run.proofs.Printed.{behind-more, few-at, lacks-at}
use Rattle.coll_run.proofs.printing.print_rank.Goals as goal

pub bounds-places-comm : goal.bounds-places-comm
bounds-places-comm c =
    let p = request_view c.index-requests-number.result in
    let few : IsFew p =
    few-at c.args.requests.now c.loop-number.number c.index-requests-number.result c.loop-number-test.true
    c.index-requests-number.is c.requires.each in
    omega (arith, few.comm, c.from-comm.ensures)

pub print_request-requires : goal.print_request-requires
print_request-requires c =
    few-at c.args.requests.now c.loop-number.number c.index-requests-number.result c.loop-number-test.true
    c.index-requests-number.is c.requires.each

pub overflow_add-places : goal.overflow_add-places
overflow_add-places c =
    let p = request_view c.index-requests-number.result in
    let few : IsFew p =
    few-at c.args.requests.now c.loop-number.number c.index-requests-number.result c.loop-number-test.true
    c.index-requests-number.is c.requires.each in
    let requests = map request_view c.args.requests.now in
    let known = few.comm in
    let place_is : get_or c.loop-number.places c.from-comm.result 0
    ≡ length (posted_on p.comm (take c.loop-number.number requests)) =
    ap (slice_index c.loop-number.places) c.from-comm.ensures ∙ c.loop-number.invariant.counted p.comm known in
    let most = length-take c.loop-number.number requests in
    let counted = length-posted_on p.comm (take c.loop-number.number requests) in
    omega (arith, place_is, counted, most, c.loop-number-test.true, c.requires.few)

pub bounds-places-comm-in-loop-number : goal.bounds-places-comm-in-loop-number
bounds-places-comm-in-loop-number c =
    let p = request_view c.index-requests-number.result in
    let few : IsFew p =
    few-at c.args.requests.now c.loop-number.number c.index-requests-number.result c.loop-number-test.true
    c.index-requests-number.is c.requires.each in
    omega (arith, few.comm, c.from-comm.ensures)

pub loop-number-preserved : goal.loop-number-preserved
loop-number-preserved c =
    let p = request_view c.index-requests-number.result in
    let few : IsFew p =
    few-at c.args.requests.now c.loop-number.number c.index-requests-number.result c.loop-number-test.true
    c.index-requests-number.is c.requires.each in
    let requests = map request_view c.args.requests.now in
    let known = few.comm in
    let place_is : get_or c.loop-number.places c.from-comm.result 0
    ≡ length (posted_on p.comm (take c.loop-number.number requests)) =
    ap (slice_index c.loop-number.places) c.from-comm.ensures ∙ c.loop-number.invariant.counted p.comm known in
    let handed = handed_in c.args.index.now.entries in
    let front = drop-view request_view c.args.requests.now c.loop-number.number c.index-requests-number.result
    c.loop-number-test.true c.index-requests-number.is in
    let lt : c.loop-number.number < length requests = rw length-map c.loop-number-test.true in
    let printed : c.print_request.new.out.items
    ≡ c.loop-number.out.items ++ told_request handed c.args.rank c.loop-number.number
    (length (posted_on p.comm (take c.loop-number.number requests))) p =
    c.in_ok-print_request.ensures.ok
    ∙ ap (λ k. c.loop-number.out.items ++ told_request handed c.args.rank c.loop-number.number k p) place_is in
    record {
      room = length-set c.loop-number.places c.from-comm.result
          (get_or c.loop-number.places c.from-comm.result 0 + 1) ∙ c.loop-number.invariant.room;
      counted = λ comm below. ap
          (λ k. slice_index (set c.loop-number.places k (get_or c.loop-number.places k 0 + 1)) comm) c.from-comm.ensures
          ∙ counted-more c.loop-number.places c.loop-number.number requests p
          c.loop-number.invariant.room known front c.loop-number.invariant.counted comm below;
      printed = rw printed
          (behind-more handed c.args.rank c.loop-number.number requests p c.loop-number.out.items _ lt front
          c.loop-number.invariant.printed);
    }

pub returns-in_err-print_request-clause-torn : goal.returns-in_err-print_request-clause-torn
returns-in_err-print_request-clause-torn c =
    let e = err_from_is_err_and c.from_residual.result c.from_residual.ensures.1 in
    let p = request_view c.index-requests-number.result in
    let few : IsFew p =
    few-at c.args.requests.now c.loop-number.number c.index-requests-number.result c.loop-number-test.true
    c.index-requests-number.is c.requires.each in
    let requests = map request_view c.args.requests.now in
    let known = few.comm in
    let place_is : get_or c.loop-number.places c.from-comm.result 0
    ≡ length (posted_on p.comm (take c.loop-number.number requests)) =
    ap (slice_index c.loop-number.places) c.from-comm.ensures ∙ c.loop-number.invariant.counted p.comm known in
    let front = drop-view request_view c.args.requests.now c.loop-number.number c.index-requests-number.result
    c.loop-number-test.true c.index-requests-number.is in
    rw (e.1, e.2)
    (λ is. lacks-at (handed_in c.args.index.now.entries) c.args.rank c.loop-number.number requests p _ front place_is
    (c.in_err-print_request.ensures.torn is))
