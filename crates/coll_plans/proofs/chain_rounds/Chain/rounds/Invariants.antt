use Rattle.std.proofs.Common.{◌≡◌, ◌++◌, ◌-◌}
use Rattle.coll_trees.specs.Columns.{rounds_of}
use Rattle.coll_plans.specs.ChainBcast.{relaying}
use Rattle.coll_plans.proofs.chain_rounds.Chain.rounds.Given as goal

-- the rounds so far with those that remain are all
abbrev pub invariant-loop-step : goal.invariant-loop-step
invariant-loop-step l =
    l.rounds.items ++ rounds_of (relaying l.self.len l.self.n l.self.root l.step (l.count - l.step)) l.r
    ≡ rounds_of (relaying l.self.len l.self.n l.self.root 0 l.count) l.r
