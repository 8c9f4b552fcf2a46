use Rattle.std.proofs.Common.{◌≡◌, ◌+◌, ◌-◌, map, take, sym, ap, ◌∙◌, arith}
use Rattle.coll_parser.specs.Requests.{place_on}
use Rattle.coll_parser.specs.Code.{request_view}
use Rattle.coll_parser.proofs.Lists.{slice_get-view}
use Rattle.coll_parser.proofs.Placed.{looks-at, looks-past, place-few}
use Rattle.coll_parser.proofs.request.place_on.Goals as goal

pub overflow_add-result : goal.overflow_add-result
overflow_add-result c =
    let k = c.loop-index.index - 1 in
    let at = slice_get-view request_view c.args.requests.now k c.index-requests-index.result (omega arith) c.index-requests-index.is in
    let few = place-few (map request_view c.args.requests.now) k (request_view c.index-requests-index.result) at c.requires in
    omega (arith, few, c.loop-index-test.true, c.loop-index.auto.index)

pub returns-then-request-comm : goal.returns-then-request-comm
returns-then-request-comm c =
    let k = c.loop-index.index - 1 in
    let requests = map request_view c.args.requests.now in
    let at = slice_get-view request_view c.args.requests.now k c.index-requests-index.result (omega arith) c.index-requests-index.is in
    let next : k + 1 ≡ c.loop-index.index = omega (arith, c.loop-index-test.true) in
    sym (looks-at c.args.comm k requests (request_view c.index-requests-index.result) at c.if-request-comm.true c.requires)
    ∙ ap (λ n. place_on c.args.comm (take n requests)) next ∙ c.loop-index.invariant

pub loop-index-preserved : goal.loop-index-preserved
loop-index-preserved c =
    let k = c.loop-index.index - 1 in
    let requests = map request_view c.args.requests.now in
    let at = slice_get-view request_view c.args.requests.now k c.index-requests-index.result (omega arith) c.index-requests-index.is in
    let next : k + 1 ≡ c.loop-index.index = omega (arith, c.loop-index-test.true) in
    sym (looks-past c.args.comm k requests (request_view c.index-requests-index.result) at c.if-request-comm.false)
    ∙ ap (λ n. place_on c.args.comm (take n requests)) next ∙ c.loop-index.invariant
