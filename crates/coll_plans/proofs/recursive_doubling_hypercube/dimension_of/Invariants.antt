use Rattle.std.proofs.Common.{◌≡◌, ◌-◌}
use Rattle.coll_plans.specs.RecursiveDoublingHypercube.{dimension_from}
use Rattle.coll_plans.proofs.recursive_doubling_hypercube.dimension_of.Given as goal

-- the search goes on from here
abbrev pub invariant-loop-dimension : goal.invariant-loop-dimension
invariant-loop-dimension l = dimension_from (6 - l.dimension) l.dimension l.n ≡ dimension_from 6 0 l.n
