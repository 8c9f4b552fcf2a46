-- each push takes a round from those that remain
use Rattle.std.proofs.Common.{◌≡◌, ◌+◌, ◌-◌, [], ◌∷◌, ◌++◌, arith, ap, ◌∙◌}
use Rattle.coll_trees.specs.Columns.{rounds_of}
use Rattle.coll_plans.specs.DirectFamilies.{combines_below}
use Rattle.coll_plans.proofs.DirectRsblockCombining.{combines_more}
use Rattle.coll_plans.proofs.direct_rsblock.push_combines.Goals as goal

pub loop-done-preserved : goal.loop-done-preserved
loop-done-preserved c =
    ap (λ k. c.push.new.self.items ++ rounds_of (combines_below c.args.op c.args.ty c.args.blocks k) 0)
    (let z : c.args.n - (c.loop-done.done + 1) ≡ c.args.n - 1 - c.loop-done.done = omega arith in z)
    ∙ combines_more c.args.op c.args.ty c.args.blocks (c.args.n - c.loop-done.done) (c.args.n - 1 - c.loop-done.done)
    c.loop-done.rounds.items c.push.new.self.items _ (omega arith) c.loop-done.invariant
    (c.in_ok-push.ensures.items ∙ ap (λ x. c.loop-done.rounds.items ++ x ∷ []) c.in_ok-round.ensures.ok)
