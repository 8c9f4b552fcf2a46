use Rattle.std.proofs.Common.{◌≡◌, ◌≤◌, take, vec_capacity}
use Rattle.coll_traced.specs.Awaiting.{tickets_in}
use Rattle.coll_traced.proofs.port_wait.list.Given as goal

abbrev pub invariant-loop-request : goal.invariant-loop-request
invariant-loop-request l =
    (l.tickets.items ≡ tickets_in (take l.request-index l.requests)) × (vec_capacity l.initial.tickets ≤ vec_capacity l.tickets)
