use Rattle.std.proofs.Common.{◌≡◌, ◌<◌, ◌≤◌, ◌+◌, ◌++◌, ℕ, List, length, map, take, set, get_or, ap, subst, sym, ◌∙◌, arith}
use Rattle.std.specs.Prelude.{slice_index}
use Rattle.std.specs.List.{AllByRecursion}
use Rattle.std.proofs.lemmas.List.{length-map, length-set, length-take}
use Rattle.coll_parser.specs.Code.{request_view}
use Rattle.coll_script.specs.Postings.{posted_on}
use Rattle.coll_script.specs.Outcomes.{place_view, values_view}
use Rattle.coll_script.specs.Prints.{printed_request, values_at}
use Rattle.coll_script.proofs.Counting.{length-posted_on, counted-more}
use Rattle.coll_script.proofs.Finding.{HasValues-at, comm-within, place-within, starts-there}
use Rattle.coll_script.proofs.Loops.{drop-view}
use Rattle.coll_script.proofs.Printed.{printed-more}
use Rattle.coll_script.proofs.rank_lines.print_rank.Goals as goal

pub bounds-places-comm : goal.bounds-places-comm
bounds-places-comm c =
    let p = request_view c.index-requests-number.result in
    let has = HasValues-at (values_view c.args.values.now) c.args.requests.now c.loop-number.number
    c.index-requests-number.result c.loop-number-test.true c.index-requests-number.is c.requires.values in
    let within = comm-within c.args.values.now p _ c.from-comm.result c.from-comm.ensures has in
    omega (arith, within, c.requires.groups)

pub bounds-values-comm : goal.bounds-values-comm
bounds-values-comm c =
    let p = request_view c.index-requests-number.result in
    let has = HasValues-at (values_view c.args.values.now) c.args.requests.now c.loop-number.number
    c.index-requests-number.result c.loop-number-test.true c.index-requests-number.is c.requires.values in
    comm-within c.args.values.now p _ c.from-comm.result c.from-comm.ensures has

pub index-requires : goal.index-requires
index-requires c =
    let p = request_view c.index-requests-number.result in
    let has = HasValues-at (values_view c.args.values.now) c.args.requests.now c.loop-number.number
    c.index-requests-number.result c.loop-number-test.true c.index-requests-number.is c.requires.values in
    let posted = length (posted_on p.comm (take c.loop-number.number (map request_view c.args.requests.now))) in
    let within = comm-within c.args.values.now p _ c.from-comm.result c.from-comm.ensures has in
    let comm_known : p.comm < 16 = omega (arith, within, c.from-comm.ensures, c.requires.groups) in
    let place_is : get_or c.loop-number.places c.from-comm.result 0 ≡ posted =
    ap (slice_index c.loop-number.places) c.from-comm.ensures ∙ c.loop-number.invariant.counted p.comm comm_known in
    let below =
    place-within c.args.values.now p posted c.from-comm.result (get_or c.loop-number.places c.from-comm.result 0)
    c.index-values-comm.result c.from-comm.ensures place_is has c.index-values-comm.is in
    omega (arith, below, c.index-values-comm.result.ok)

pub print_request-requires-clause-few : goal.print_request-requires-clause-few
print_request-requires-clause-few c =
    let p = request_view c.index-requests-number.result in
    let has = HasValues-at (values_view c.args.values.now) c.args.requests.now c.loop-number.number
    c.index-requests-number.result c.loop-number-test.true c.index-requests-number.is c.requires.values in
    let posted = length (posted_on p.comm (take c.loop-number.number (map request_view c.args.requests.now))) in
    let within = comm-within c.args.values.now p _ c.from-comm.result c.from-comm.ensures has in
    let comm_known : p.comm < 16 = omega (arith, within, c.from-comm.ensures, c.requires.groups) in
    let place_is : get_or c.loop-number.places c.from-comm.result 0 ≡ posted =
    ap (slice_index c.loop-number.places) c.from-comm.ensures ∙ c.loop-number.invariant.counted p.comm comm_known in
    let starts : values_at (values_view c.args.values.now) p.comm posted ≡ place_view c.deref.result.now =
    starts-there c.args.values.now p posted c.from-comm.result (get_or c.loop-number.places c.from-comm.result 0)
    c.index-values-comm.result c.index.result.now c.from-comm.ensures place_is has c.index-values-comm.is c.index.ensures
    ∙ ap place_view (sym c.deref.ensures.value) in
    let few : length (place_view c.deref.result.now) ≤ 4294967295 = subst (λ (v : List (List (List ℕ))). length v ≤ 4294967295) starts has.few in
    let len : length (place_view c.deref.result.now) ≡ length c.deref.result.now = length-map c.deref.result.now _ in
    omega (arith, few, len)

pub print_request-requires-clause-members : goal.print_request-requires-clause-members
print_request-requires-clause-members c =
    let p = request_view c.index-requests-number.result in
    let has = HasValues-at (values_view c.args.values.now) c.args.requests.now c.loop-number.number
    c.index-requests-number.result c.loop-number-test.true c.index-requests-number.is c.requires.values in
    let posted = length (posted_on p.comm (take c.loop-number.number (map request_view c.args.requests.now))) in
    let within = comm-within c.args.values.now p _ c.from-comm.result c.from-comm.ensures has in
    let comm_known : p.comm < 16 = omega (arith, within, c.from-comm.ensures, c.requires.groups) in
    let place_is : get_or c.loop-number.places c.from-comm.result 0 ≡ posted =
    ap (slice_index c.loop-number.places) c.from-comm.ensures ∙ c.loop-number.invariant.counted p.comm comm_known in
    let starts : values_at (values_view c.args.values.now) p.comm posted ≡ place_view c.deref.result.now =
    starts-there c.args.values.now p posted c.from-comm.result (get_or c.loop-number.places c.from-comm.result 0)
    c.index-values-comm.result c.index.result.now c.from-comm.ensures place_is has c.index-values-comm.is c.index.ensures
    ∙ ap place_view (sym c.deref.ensures.value) in
    subst (AllByRecursion (λ (rows : List (List ℕ)). p.member < length rows)) starts has.members

pub overflow_add-places : goal.overflow_add-places
overflow_add-places c =
    let p = request_view c.index-requests-number.result in
    let has = HasValues-at (values_view c.args.values.now) c.args.requests.now c.loop-number.number
    c.index-requests-number.result c.loop-number-test.true c.index-requests-number.is c.requires.values in
    let posted = length (posted_on p.comm (take c.loop-number.number (map request_view c.args.requests.now))) in
    let within = comm-within c.args.values.now p _ c.from-comm.result c.from-comm.ensures has in
    let comm_known : p.comm < 16 = omega (arith, within, c.from-comm.ensures, c.requires.groups) in
    let place_is : get_or c.loop-number.places c.from-comm.result 0 ≡ posted =
    ap (slice_index c.loop-number.places) c.from-comm.ensures ∙ c.loop-number.invariant.counted p.comm comm_known in
    let most = length-take c.loop-number.number (map request_view c.args.requests.now) in
    let counted = length-posted_on p.comm (take c.loop-number.number (map request_view c.args.requests.now)) in
    omega (arith, place_is, counted, most, c.loop-number-test.true, c.requires.few)

pub bounds-places-comm-in-loop-number : goal.bounds-places-comm-in-loop-number
bounds-places-comm-in-loop-number c =
    let p = request_view c.index-requests-number.result in
    let has = HasValues-at (values_view c.args.values.now) c.args.requests.now c.loop-number.number
    c.index-requests-number.result c.loop-number-test.true c.index-requests-number.is c.requires.values in
    let within = comm-within c.args.values.now p _ c.from-comm.result c.from-comm.ensures has in
    omega (arith, within, c.requires.groups)

pub loop-number-preserved : goal.loop-number-preserved
loop-number-preserved c =
    let p = request_view c.index-requests-number.result in
    let has = HasValues-at (values_view c.args.values.now) c.args.requests.now c.loop-number.number
    c.index-requests-number.result c.loop-number-test.true c.index-requests-number.is c.requires.values in
    let requests = map request_view c.args.requests.now in
    let posted = length (posted_on p.comm (take c.loop-number.number (map request_view c.args.requests.now))) in
    let within = comm-within c.args.values.now p _ c.from-comm.result c.from-comm.ensures has in
    let comm_known : p.comm < 16 = omega (arith, within, c.from-comm.ensures, c.requires.groups) in
    let place_is : get_or c.loop-number.places c.from-comm.result 0 ≡ posted =
    ap (slice_index c.loop-number.places) c.from-comm.ensures ∙ c.loop-number.invariant.counted p.comm comm_known in
    let starts : values_at (values_view c.args.values.now) p.comm posted ≡ place_view c.deref.result.now =
    starts-there c.args.values.now p posted c.from-comm.result (get_or c.loop-number.places c.from-comm.result 0)
    c.index-values-comm.result c.index.result.now c.from-comm.ensures place_is has c.index-values-comm.is c.index.ensures
    ∙ ap place_view (sym c.deref.ensures.value) in
    let front = drop-view request_view c.args.requests.now c.loop-number.number c.index-requests-number.result
    c.loop-number-test.true c.index-requests-number.is in
    let lt : c.loop-number.number < length requests = rw length-map c.loop-number-test.true in
    let printed : c.print_request.new.out.items
    ≡ c.loop-number.out.items ++ printed_request c.args.rank c.loop-number.number p (values_at (values_view c.args.values.now) p.comm posted) =
    c.in_ok-print_request.ensures.ok
    ∙ ap (λ (v : List (List (List ℕ))). c.loop-number.out.items ++ printed_request c.args.rank c.loop-number.number p v) (sym starts) in
    record {
      room = length-set c.loop-number.places c.from-comm.result (get_or c.loop-number.places c.from-comm.result 0 + 1) ∙ c.loop-number.invariant.room;
      counted = λ comm below. ap (λ k. slice_index (set c.loop-number.places k (get_or c.loop-number.places k 0 + 1)) comm) c.from-comm.ensures
          ∙ counted-more c.loop-number.places c.loop-number.number requests p c.loop-number.invariant.room comm_known front
          c.loop-number.invariant.counted comm below;
      printed = rw printed (printed-more (values_view c.args.values.now) c.args.rank c.loop-number.number requests p
          c.loop-number.out.items _ lt front c.loop-number.invariant.printed);
    }
