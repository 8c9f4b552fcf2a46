use Rattle.std.proofs.Common.{◌≡◌, ◌<◌, ℕ, get_or, map}
use Rattle.std.specs.Prelude.{All}
use Rattle.coll_traced.specs.declared.port_wait.PortWait.{PortWait}
use Rattle.coll_traced.specs.Stalls.{IsRightlyMarked}
use Rattle.coll_traced.specs.Waits.{IsRoomy, wait_in}
use Rattle.coll_traced.proofs.waits.mark_each.Given as goal

abbrev pub invariant-loop-port : goal.invariant-loop-port
invariant-loop-port l =
    (map wait_in l.ports ≡ map wait_in l.initial.ports)
    × ((k : ℕ) (d : PortWait) → k < l.port-index → IsRightlyMarked l.core (get_or l.ports k d))
    × ((slots : ℕ) → All (IsRoomy slots) l.initial.ports → All (IsRoomy slots) l.ports)
