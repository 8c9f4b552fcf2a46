use Rattle.std.proofs.Common.{◌≡◌, IfSome}
use Rattle.coll_traced.specs.Awaiting.{IsHindrance}
use Rattle.coll_shared.proofs.combiner.Combiner.wait.Given as goal

abbrev pub invariant-loop : goal.invariant-loop
invariant-loop g l =
    (goal.iterator-loop g).can_next l.iterator' × (goal.iterator-loop g).is_finite l.iterator'
    × (l.tally ≡ l.fn.first) × (l.request ≡ l.fn.request) × IfSome l.hindrance (IsHindrance g.L.Entries.setting l.rank)
