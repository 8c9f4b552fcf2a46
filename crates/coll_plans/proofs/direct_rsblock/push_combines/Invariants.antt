use Rattle.std.proofs.Common.{◌≡◌, ◌++◌, ◌-◌}
use Rattle.coll_trees.specs.Columns.{rounds_of}
use Rattle.coll_plans.specs.DirectFamilies.{combines_below}
use Rattle.coll_plans.proofs.direct_rsblock.push_combines.Given as goal

-- the rounds so far with those that remain are all
abbrev pub invariant-loop-done : goal.invariant-loop-done
invariant-loop-done l =
    l.rounds.items ++ rounds_of (combines_below l.op l.ty l.blocks (l.n - l.done)) 0
    ≡ l.initial.rounds.items ++ rounds_of (combines_below l.op l.ty l.blocks (l.n - 1)) 0
