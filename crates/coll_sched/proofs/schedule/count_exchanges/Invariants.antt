use Rattle.std.proofs.Common.{◌≡◌, take, count_by}
use Rattle.std.specs.List.{list_any}
use Rattle.coll_sched.specs.Schedules.{has_peer}
use Rattle.coll_sched.proofs.schedule.count_exchanges.Given as goal

abbrev pub invariant-loop-round : goal.invariant-loop-round
invariant-loop-round l = l.count ≡ count_by (λ round. list_any has_peer round) (take l.round-index l.rounds)
