use Rattle.std.proofs.Common.{◌≡◌, ◌+◌, ◌≤◌, map, vec_len, vec_capacity}
use Rattle.std.specs.List.{range_with_len}
use Rattle.coll_shared.specs.Ports.{opened}
use Rattle.coll_shared.proofs.engine.ports_of.Given as goal

abbrev pub invariant-loop-rank : goal.invariant-loop-rank
invariant-loop-rank g l =
    (l.shares.parts + l.rank ≡ l.ranks) × (l.shares.amount ≡ 0) × (vec_len l.ports ≡ l.rank) × (l.ranks ≤ vec_capacity l.ports)
    × (l.ports.items ≡ map (opened l.communicators) (range_with_len 0 l.rank))
