-- each push takes a round from those that remain
use Rattle.std.proofs.Common.{◌+◌, ◌-◌, [], ◌∷◌, ◌++◌, refl, ap, ◌∙◌}
use Rattle.coll_trees.specs.Columns.{rounds_of}
use Rattle.coll_trees.proofs.Steps.{one_step}
use Rattle.coll_plans.specs.ChainBcast.{relay, relay_of, relaying}
use Rattle.coll_plans.proofs.chain_rounds.Chain.rounds.Goals as goal

pub loop-step-preserved : goal.loop-step-preserved
loop-step-preserved c =
    one_step (λ k m. rounds_of (relaying c.args.self.len c.args.self.n c.args.self.root k m) c.args.r)
    (λ k. relay c.args.self.len c.args.self.n c.args.self.root k c.args.r ∷ [])
    (λ k m. refl) c.loop-step.step (c.args.self.n - 2 + c.segment_count.result) c.loop-step.rounds.items c.push.new.self.items _
    c.loop-step-test.true c.loop-step.invariant
    (c.in_ok-push.ensures.items
    ∙ ap (λ x. c.loop-step.rounds.items ++ x ∷ [])
    (c.in_ok-round.ensures.ok ∙ ap (relay_of c.args.self.len c.args.self.n c.args.self.root c.loop-step.step) c.from_root-number.ensures.number))
