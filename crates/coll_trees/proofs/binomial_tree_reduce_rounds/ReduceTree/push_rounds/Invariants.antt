use Rattle.std.proofs.Common.{◌≡◌, ◌++◌, ◌-◌}
use Rattle.coll_trees.specs.Columns.{rounds_of}
use Rattle.coll_trees.specs.BinomialTreeReduce.{reduce_tree_rounds}
use Rattle.coll_trees.proofs.binomial_tree_reduce_rounds.ReduceTree.push_rounds.Given as goal

-- the rounds so far with those that remain are all
abbrev pub invariant-loop-step : goal.invariant-loop-step
invariant-loop-step l =
    l.rounds.items ++ rounds_of (reduce_tree_rounds l.self.op l.self.ty l.self.len l.self.n l.step (l.steps - l.step)) l.r
    ≡ l.initial.rounds.items ++ rounds_of (reduce_tree_rounds l.self.op l.self.ty l.self.len l.self.n 0 l.steps) l.r
