-- each push takes a round from those that remain
use Rattle.std.proofs.Common.{◌≡◌, ◌<◌, ◌^◌, [], ◌∷◌, ◌++◌, arith, refl, ap, ◌∙◌}
use Rattle.coll_trees.specs.Columns.{rounds_of}
use Rattle.coll_trees.specs.Depths.{depth}
use Rattle.coll_trees.proofs.Steps.{one_step}
use Rattle.coll_plans.specs.DisseminationBarrier.{barrier_round, barrier_rounds}
use Rattle.coll_plans.proofs.DisseminationBarrier.{step_short}
use Rattle.coll_plans.proofs.dissemination_barrier.barrier_rounds.Goals as goal

pub barrier_round-requires-clause-near : goal.barrier_round-requires-clause-near
barrier_round-requires-clause-near c =
    let e : c.pow.result ≡ 2 ^ c.loop-step.step = c.pow.ensures ∙ ap (λ k. 2 ^ k) c.from-in-loop-step.ensures in
    let d : c.depth_of-steps.result ≡ depth c.args.n = c.depth_of-steps.ensures.depth in
    let near : 2 ^ c.loop-step.step < c.args.n = step_short c.args.n c.loop-step.step (omega arith) in omega arith

pub loop-step-preserved : goal.loop-step-preserved
loop-step-preserved c =
    let e : c.pow.result ≡ 2 ^ c.loop-step.step = c.pow.ensures ∙ ap (λ k. 2 ^ k) c.from-in-loop-step.ensures in
    one_step (λ k m. rounds_of (barrier_rounds c.args.n k m) c.args.r) (λ k. barrier_round c.args.n (2 ^ k) c.args.r ∷ [])
    (λ k m. refl) c.loop-step.step c.depth_of-steps.result c.loop-step.rounds.items c.push.new.self.items
    (rounds_of (barrier_rounds c.args.n 0 c.depth_of-steps.result) c.args.r) c.loop-step-test.true c.loop-step.invariant
    (c.in_ok-push.ensures.items ∙ ap (λ x. c.loop-step.rounds.items ++ x ∷ []) (c.in_ok-round.ensures.ok ∙ ap (λ s. barrier_round c.args.n s c.args.r) e))
