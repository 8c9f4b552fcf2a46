use Rattle.std.proofs.Common.{◌≡◌, ◌<◌, ℕ, false, get_or}
use Rattle.coll_traced.specs.declared.port_wait.PortWait.{PortWait}
use Rattle.coll_traced.specs.Waits.{mark_in}
use Rattle.coll_traced.proofs.waits.some_is_marked.Given as goal

abbrev pub invariant-loop-port : goal.invariant-loop-port
invariant-loop-port l = (k : ℕ) (d : PortWait) → k < l.port-index → mark_in (get_or l.ports k d) ≡ false
