use Rattle.std.proofs.Common.{◌≡◌, ◌++◌, ◌-◌}
use Rattle.coll_trees.specs.Columns.{rounds_of}
use Rattle.coll_trees.specs.BinomialTreeBcast.{bcast_tree_rounds}
use Rattle.coll_trees.proofs.binomial_tree_bcast_rounds.BcastTree.push_rounds.Given as goal

-- the rounds so far with those that remain are all
abbrev pub invariant-loop-step : goal.invariant-loop-step
invariant-loop-step l =
    l.rounds.items ++ rounds_of (bcast_tree_rounds l.self.len l.self.n l.self.root l.step (l.steps - l.step)) l.r
    ≡ l.initial.rounds.items ++ rounds_of (bcast_tree_rounds l.self.len l.self.n l.self.root 0 l.steps) l.r
