-- the corners are members
use Rattle.std.proofs.Common.{◌≡◌, ◌≤◌, ◌^◌, arith, ap, ◌∙◌}
use Rattle.coll_plans.specs.RecursiveDoublingHypercube.{dimension}
use Rattle.coll_plans.proofs.RecursiveDoublingHypercube.{corners_filled}
use Rattle.coll_plans.proofs.recursive_doubling_hypercube.Hypercube.new.Goals as goal

pub overflow_sub-result : goal.overflow_sub-result
overflow_sub-result c =
    let e : c.pow.result ≡ 2 ^ dimension c.args.n = c.pow.ensures ∙ ap (λ k. 2 ^ k) (c.from.ensures ∙ c.dimension_of-dimension.ensures.dimension) in
    let full : 2 ^ dimension c.args.n ≤ c.args.n = corners_filled c.args.n c.requires.some in omega arith
