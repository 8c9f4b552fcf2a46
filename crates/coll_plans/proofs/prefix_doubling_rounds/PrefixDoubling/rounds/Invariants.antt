use Rattle.std.proofs.Common.{◌≡◌, ◌++◌, ◌-◌}
use Rattle.coll_trees.specs.Columns.{rounds_of}
use Rattle.coll_plans.specs.PrefixDoubling.{joins, doubling}
use Rattle.coll_plans.proofs.prefix_doubling_rounds.PrefixDoubling.rounds.Given as goal

-- the rounds so far with those that remain are all
abbrev pub invariant-loop-step : goal.invariant-loop-step
invariant-loop-step l =
    l.rounds.items ++ rounds_of (doubling l.self.len l.self.n (joins l.self.exclusive l.self.op l.self.ty l.self.len) l.step (l.steps - l.step)) l.r
    ≡ rounds_of (doubling l.self.len l.self.n (joins l.self.exclusive l.self.op l.self.ty l.self.len) 0 l.steps) l.r
