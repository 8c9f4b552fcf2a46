use Rattle.std.proofs.Common.{◌≡◌, ◌-◌}
use Rattle.coll_trees.specs.Depths.{depth_from}
use Rattle.coll_trees.proofs.depth.depth_of.Given as goal

-- the search goes on from here
abbrev pub invariant-loop-depth : goal.invariant-loop-depth
invariant-loop-depth l = depth_from (6 - l.depth) l.depth l.n ≡ depth_from 6 0 l.n
