use Rattle.std.proofs.Common.{◌≡◌, ◌≤◌, ◌<◌, ◌+◌, ◌++◌, [], length, take, sym, ap, ◌∙◌, vec_capacity, arith}
use Rattle.std.specs.List.{cons_option}
use Rattle.coll_traced.specs.Awaiting.{tickets_in}
use Rattle.coll_traced.proofs.PortWaits.{on_err}
use Rattle.coll_traced.proofs.Awaiting.{length-tickets_more, none_added, tickets_more}
use Rattle.coll_traced.proofs.port_wait.list.Goals as goal
use Rattle.coll_traced.proofs.port_wait.list.Goals.{in-Some+in_ok-push, in_default}

pub loop-request-preserved : goal.loop-request-preserved
loop-request-preserved c =
    let list = c.args.requests.now in
    let was = c.loop-request.tickets.items in
    let ticket = c.ticket.result in
    let more : tickets_in (take (c.loop-request.request-index + 1) list) ≡ was ++ cons_option ticket [] =
    tickets_more list c.loop-request.request-index c.request-item.result ticket c.loop-request-test.true c.request-item.is c.ticket.ensures
    ∙ ap (λ ts. ts ++ cons_option ticket []) (sym c.loop-request.invariant.0) in
    let room : vec_capacity c.clear.new.self ≤ vec_capacity c.loop-request.tickets = c.loop-request.invariant.1 in
    elim c.match-ticket.branch [
      | in-Some+in_ok-push w ↦
          let grows = w.in_ok-push.ensures.capacity in
          let same = ap vec_capacity w.tickets-is in
          (ap (λ v. v.items) w.tickets-is ∙ (w.in_ok-push.ensures.items ∙ (ap (λ o. was ++ cons_option o []) (sym w.in-Some.is) ∙ sym more)), omega arith)
      | in_default w ↦
          let same = ap vec_capacity w.tickets-is in
          (ap (λ v. v.items) w.tickets-is ∙ (sym (none_added was ticket w.in_default.not-Some) ∙ sym more), omega arith)
    ]

pub returns-in_err-push-clause-full : goal.returns-in_err-push-clause-full
returns-in_err-push-clause-full c =
    let list = c.args.requests.now in
    let i = c.loop-request.request-index in
    let more : length (tickets_in (take i list)) < length (tickets_in list) =
    length-tickets_more list i c.request-item.result c.in-Some.ticket c.loop-request-test.true c.request-item.is (sym c.in-Some.is ∙ c.ticket.ensures) in
    let full = c.in_err-push.ensures.full in
    let is = ap length c.loop-request.invariant.0 in
    let room = c.loop-request.invariant.1 in
    let cleared = c.clear.ensures.capacity in
    let less : vec_capacity c.args.tickets.now < length (tickets_in list) = omega arith in
    on_err c.from_residual.result less
