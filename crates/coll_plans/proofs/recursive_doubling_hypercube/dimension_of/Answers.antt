-- the search stops at the first power that is too great
use Rattle.std.proofs.Common.{◌≡◌, ◌^◌, ◌+◌, ◌-◌, suc, arith, sym, ap, ◌∙◌}
use Rattle.coll_plans.specs.RecursiveDoublingHypercube.{dimension_from, dimension}
use Rattle.coll_plans.proofs.RecursiveDoublingHypercube.{dimension_from-here, dimension_from-next}
use Rattle.coll_plans.proofs.recursive_doubling_hypercube.dimension_of.Goals as goal

pub returns-then-n-pow-clause-dimension : goal.returns-then-n-pow-clause-dimension
unfolding dimension
returns-then-n-pow-clause-dimension c =
    let e : c.pow.result ≡ 2 ^ suc c.loop-dimension.dimension =
    c.pow.ensures ∙ ap (λ k. 2 ^ k) (c.from.ensures ∙ (let z : c.loop-dimension.dimension + 1 ≡ suc c.loop-dimension.dimension = omega arith in z)) in
    sym (dimension_from-here c.loop-dimension.dimension c.args.n (omega arith) (omega arith)) ∙ c.loop-dimension.invariant

pub loop-dimension-preserved : goal.loop-dimension-preserved
loop-dimension-preserved c =
    let e : c.pow.result ≡ 2 ^ suc c.loop-dimension.dimension =
    c.pow.ensures ∙ ap (λ k. 2 ^ k) (c.from.ensures ∙ (let z : c.loop-dimension.dimension + 1 ≡ suc c.loop-dimension.dimension = omega arith in z)) in
    sym (dimension_from-next c.loop-dimension.dimension c.args.n (omega arith) (omega arith)) ∙ c.loop-dimension.invariant

pub returns-clause-dimension : goal.returns-clause-dimension
unfolding dimension
returns-clause-dimension c =
    let e : c.loop-dimension.dimension ≡ 6 = omega arith in
    sym (ap (λ k. dimension_from (6 - k) k c.args.n) e) ∙ c.loop-dimension.invariant
