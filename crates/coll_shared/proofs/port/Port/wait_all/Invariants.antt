use Rattle.std.proofs.Common.{◌≡◌, IfSome}
use Rattle.coll_traced.specs.Awaiting.{IsHindrance}
use Rattle.coll_shared.proofs.port.Port.wait_all.Given as goal

abbrev pub invariant-loop : goal.invariant-loop
invariant-loop g l =
    (goal.iterator-loop g).can_next l.iterator' × (goal.iterator-loop g).is_finite l.iterator'
    × (l.requests ≡ l.initial.requests) × (l.out ≡ l.initial.out) × (l.tally ≡ l.initial.tally) × IfSome l.hindrance (IsHindrance g.L.Entries.setting l.rank)
