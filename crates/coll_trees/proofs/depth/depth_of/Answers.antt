-- the search stops at the first power that is enough
use Rattle.std.proofs.Common.{◌≡◌, ◌^◌, ◌-◌, arith, sym, ap, ◌∙◌}
use Rattle.coll_trees.specs.Depths.{depth_from, depth}
use Rattle.coll_trees.proofs.Depths.{depth_from-here, depth_from-next}
use Rattle.coll_trees.proofs.depth.depth_of.Goals as goal

pub returns-then-n-pow-clause-depth : goal.returns-then-n-pow-clause-depth
unfolding depth
returns-then-n-pow-clause-depth c =
    let e : c.pow.result ≡ 2 ^ c.loop-depth.depth = c.pow.ensures ∙ ap (λ k. 2 ^ k) c.from.ensures in
    sym (depth_from-here c.loop-depth.depth c.args.n (omega arith) (omega arith)) ∙ c.loop-depth.invariant

pub loop-depth-preserved : goal.loop-depth-preserved
loop-depth-preserved c =
    let e : c.pow.result ≡ 2 ^ c.loop-depth.depth = c.pow.ensures ∙ ap (λ k. 2 ^ k) c.from.ensures in
    sym (depth_from-next c.loop-depth.depth c.args.n (omega arith) (omega arith)) ∙ c.loop-depth.invariant

pub returns-clause-depth : goal.returns-clause-depth
unfolding depth
returns-clause-depth c =
    let e : c.loop-depth.depth ≡ 6 = omega arith in
    sym (ap (λ k. depth_from (6 - k) k c.args.n) e) ∙ c.loop-depth.invariant
