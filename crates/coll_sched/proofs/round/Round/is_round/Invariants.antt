use Rattle.std.proofs.Common.{◌↔◌, length}
use Rattle.coll_sched.specs.Schedules.{IsRound}
use Rattle.coll_sched.proofs.round.Round.is_round.Given as goal

-- what is left is a round exactly where the whole is
abbrev pub invariant-loop-action : goal.invariant-loop-action
invariant-loop-action l = IsRound l.size l.rest ↔ IsRound l.size l.self

abbrev pub decreases-loop-action : goal.decreases-loop-action
decreases-loop-action l = length l.rest
