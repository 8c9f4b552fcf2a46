use Rattle.std.proofs.Common.{◌≡◌, ◌++◌, ◌-◌}
use Rattle.coll_trees.specs.Columns.{rounds_of}
use Rattle.coll_plans.specs.RecursiveDoubling.{hypercube_rounds}
use Rattle.coll_plans.proofs.recursive_doubling_rounds.RecursiveDoubling.push_exchanges.Given as goal

-- the rounds so far with those that remain are all
abbrev pub invariant-loop-step : goal.invariant-loop-step
invariant-loop-step l =
    l.rounds.items ++ rounds_of (hypercube_rounds l.self.op l.self.ty l.self.len l.self.cube.extra l.step (l.self.cube.dimension - l.step)) l.r
    ≡ l.initial.rounds.items ++ rounds_of (hypercube_rounds l.self.op l.self.ty l.self.len l.self.cube.extra 0 l.self.cube.dimension) l.r
