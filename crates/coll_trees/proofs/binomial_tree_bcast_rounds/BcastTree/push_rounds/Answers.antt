-- each push takes a round from those that remain
use Rattle.std.proofs.Common.{◌≡◌, ◌≤◌, ◌^◌, [], ◌∷◌, ◌++◌, arith, refl, ap, ◌∙◌}
use Rattle.coll_trees.specs.Columns.{rounds_of}
use Rattle.coll_trees.specs.BinomialTreeBcast.{bcast_step, hop, bcast_tree_at, bcast_tree_rounds}
use Rattle.coll_trees.proofs.Depths.{pow_near}
use Rattle.coll_trees.proofs.Steps.{one_step}
use Rattle.coll_trees.proofs.binomial_tree_bcast_rounds.BcastTree.push_rounds.Goals as goal

pub hop-requires-clause-near : goal.hop-requires-clause-near
hop-requires-clause-near c =
    let e : c.pow.result ≡ 2 ^ c.loop-step.step = c.pow.ensures ∙ ap (λ k. 2 ^ k) c.from.ensures in
    let near : 2 ^ c.loop-step.step ≤ 64 = pow_near c.loop-step.step (omega arith) in omega arith

pub loop-step-preserved : goal.loop-step-preserved
loop-step-preserved c =
    let e : c.pow.result ≡ 2 ^ c.loop-step.step = c.pow.ensures ∙ ap (λ k. 2 ^ k) c.from.ensures in
    let is : c.in_ok-round.round ≡ bcast_tree_at c.args.self.len c.args.self.n c.args.self.root (2 ^ c.loop-step.step) c.args.r =
    c.in_ok-round.ensures.ok
    ∙ (ap (λ v. hop c.args.self.len c.args.self.n c.args.self.root v c.pow.result (bcast_step c.args.self.n v c.pow.result)) c.from_root-number.ensures.number
    ∙ ap (λ s. bcast_tree_at c.args.self.len c.args.self.n c.args.self.root s c.args.r) e) in
    one_step (λ k m. rounds_of (bcast_tree_rounds c.args.self.len c.args.self.n c.args.self.root k m) c.args.r)
    (λ k. bcast_tree_at c.args.self.len c.args.self.n c.args.self.root (2 ^ k) c.args.r ∷ [])
    (λ k m. refl) c.loop-step.step c.depth_of-steps.result c.loop-step.rounds.items c.push.new.self.items _ c.loop-step-test.true c.loop-step.invariant
    (c.in_ok-push.ensures.items ∙ ap (λ x. c.loop-step.rounds.items ++ x ∷ []) is)
