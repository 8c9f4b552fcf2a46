use Rattle.std.proofs.Common.{◌≡◌, ◌++◌, ◌-◌}
use Rattle.coll_trees.specs.Columns.{rounds_of}
use Rattle.coll_plans.specs.BruckAllgather.{bruck_rounds}
use Rattle.coll_plans.proofs.bruck_rounds.Bruck.rounds.Given as goal

-- the rounds so far with those that remain are all
abbrev pub invariant-loop-step : goal.invariant-loop-step
invariant-loop-step l =
    l.rounds.items ++ rounds_of (bruck_rounds l.self.len l.self.n l.step (l.steps - l.step)) l.r ≡ rounds_of (bruck_rounds l.self.len l.self.n 0 l.steps) l.r
