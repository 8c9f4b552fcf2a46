-- each push takes a round from those that remain, and the copies are the last
use Rattle.std.proofs.Common.{◌≡◌, ◌<◌, ◌^◌, ◌-◌, [], ◌∷◌, ◌++◌, arith, refl, sym, ap, ◌∙◌}
use Rattle.coll_trees.specs.Columns.{rounds_of}
use Rattle.coll_trees.specs.Depths.{depth}
use Rattle.coll_trees.proofs.Steps.{one_step}
use Rattle.coll_plans.specs.BruckAllgather.{bruck_step, bruck_rounds}
use Rattle.coll_plans.proofs.DisseminationBarrier.{step_short}
use Rattle.coll_plans.proofs.bruck_rounds.Bruck.rounds.Goals as goal

pub step-requires-clause-near : goal.step-requires-clause-near
step-requires-clause-near c =
    let e : c.pow.result ≡ 2 ^ c.loop-step.step = c.pow.ensures ∙ ap (λ k. 2 ^ k) c.from-in-loop-step.ensures in
    let d : c.depth_of-steps.result ≡ depth c.args.self.n = c.depth_of-steps.ensures.depth in
    let near : 2 ^ c.loop-step.step < c.args.self.n = step_short c.args.self.n c.loop-step.step (omega arith) in omega arith

pub loop-step-preserved : goal.loop-step-preserved
loop-step-preserved c =
    let e : c.pow.result ≡ 2 ^ c.loop-step.step = c.pow.ensures ∙ ap (λ k. 2 ^ k) c.from-in-loop-step.ensures in
    one_step (λ k m. rounds_of (bruck_rounds c.args.self.len c.args.self.n k m) c.args.r) (λ k. bruck_step c.args.self.len c.args.self.n (2 ^ k) c.args.r ∷ [])
    (λ k m. refl) c.loop-step.step c.depth_of-steps.result c.loop-step.rounds.items c.push.new.self.items
    (rounds_of (bruck_rounds c.args.self.len c.args.self.n 0 c.depth_of-steps.result) c.args.r) c.loop-step-test.true c.loop-step.invariant
    (c.in_ok-push.ensures.items
    ∙ ap (λ x. c.loop-step.rounds.items ++ x ∷ []) (c.in_ok-round.ensures.ok ∙ ap (λ s. bruck_step c.args.self.len c.args.self.n s c.args.r) e))

pub returns-clause-ok : goal.returns-clause-ok
returns-clause-ok c =
    let over : c.depth_of-steps.result - c.loop-step.step ≡ 0 = omega arith in
    c.in_ok-push-2.ensures.items
    ∙ (ap (λ x. c.loop-step.rounds.items ++ x ∷ []) c.in_ok-last.ensures.ok
    ∙ (sym (ap (λ m. c.loop-step.rounds.items ++ rounds_of (bruck_rounds c.args.self.len c.args.self.n c.loop-step.step m) c.args.r) over)
    ∙ (c.loop-step.invariant ∙ ap (λ m. rounds_of (bruck_rounds c.args.self.len c.args.self.n 0 m) c.args.r) c.depth_of-steps.ensures.depth)))
