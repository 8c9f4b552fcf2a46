use Rattle.coll_complete.proofs.Distincts.{Apart}
use Rattle.coll_complete.proofs.distinct.are_distinct.Given as goal

abbrev pub invariant-loop-position : goal.invariant-loop-position
invariant-loop-position l = Apart l.requests l.position
