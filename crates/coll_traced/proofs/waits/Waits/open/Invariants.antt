use Rattle.std.proofs.Common.{◌≡◌, ◌≤◌, map, replicate, vec_capacity, vec_len}
use Rattle.std.specs.Prelude.{All, false}
use Rattle.coll_traced.specs.Waits.{Awake, IsRoomy, mark_in, wait_in}
use Rattle.coll_traced.proofs.waits.Waits.open.Given as goal

abbrev pub invariant-loop-rank : goal.invariant-loop-rank
invariant-loop-rank l =
    (vec_len l.ports ≡ l._rank)
    × (l.ranks ≤ vec_capacity l.ports)
    × (map wait_in l.ports.items ≡ replicate l._rank Awake)
    × (map mark_in l.ports.items ≡ replicate l._rank false)
    × All (IsRoomy l.slots) l.ports.items
