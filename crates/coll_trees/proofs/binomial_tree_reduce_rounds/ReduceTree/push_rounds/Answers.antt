-- each two pushes take two rounds from those that remain
use Rattle.std.proofs.Common.{◌≡◌, ◌≤◌, ◌^◌, [], ◌∷◌, ◌++◌, append_assoc, arith, refl, ap, ◌∙◌}
use Rattle.coll_trees.specs.Columns.{rounds_of}
use Rattle.coll_trees.specs.BinomialTreeReduce.{reduce_step, moves, combines, move_at, combine_at, reduce_tree_rounds}
use Rattle.coll_trees.proofs.Depths.{pow_near}
use Rattle.coll_trees.proofs.Steps.{one_step}
use Rattle.coll_trees.proofs.binomial_tree_reduce_rounds.ReduceTree.push_rounds.Goals as goal

pub new-part-requires-clause-near : goal.new-part-requires-clause-near
new-part-requires-clause-near c =
    let e : c.pow-distance.result ≡ 2 ^ c.loop-step.step = c.pow-distance.ensures ∙ ap (λ k. 2 ^ k) c.from.ensures in
    let near : 2 ^ c.loop-step.step ≤ 64 = pow_near c.loop-step.step (omega arith) in omega arith

pub moves-requires-clause-near : goal.moves-requires-clause-near
moves-requires-clause-near c =
    let e : c.pow-distance.result ≡ 2 ^ c.loop-step.step = c.pow-distance.ensures ∙ ap (λ k. 2 ^ k) c.from.ensures in
    let near : 2 ^ c.loop-step.step ≤ 64 = pow_near c.loop-step.step (omega arith) in omega arith

pub loop-step-preserved : goal.loop-step-preserved
loop-step-preserved c =
    let e : c.pow-distance.result ≡ 2 ^ c.loop-step.step = c.pow-distance.ensures ∙ ap (λ k. 2 ^ k) c.from.ensures in
    let part : c.new-part.result ≡ reduce_step c.args.self.n c.args.r (2 ^ c.loop-step.step) = c.new-part.ensures ∙ ap (reduce_step c.args.self.n c.args.r) e in
    let first : c.in_ok-moves.moves ≡ move_at c.args.self.len c.args.self.n (2 ^ c.loop-step.step) c.args.r =
    c.in_ok-moves.ensures.ok
    ∙ (ap (λ s. moves c.args.self.len c.args.r s c.new-part.result) e ∙ ap (moves c.args.self.len c.args.r (2 ^ c.loop-step.step)) part) in
    let second : c.in_ok-combines.combines ≡ combine_at c.args.self.op c.args.self.ty c.args.self.len c.args.self.n (2 ^ c.loop-step.step) c.args.r =
    c.in_ok-combines.ensures.ok ∙ ap (combines c.args.self.op c.args.self.ty c.args.self.len) part in
    one_step (λ k m. rounds_of (reduce_tree_rounds c.args.self.op c.args.self.ty c.args.self.len c.args.self.n k m) c.args.r)
    (λ k. move_at c.args.self.len c.args.self.n (2 ^ k) c.args.r ∷ combine_at c.args.self.op c.args.self.ty c.args.self.len c.args.self.n (2 ^ k) c.args.r ∷ [])
    (λ k m. refl) c.loop-step.step c.depth_of-steps.result c.loop-step.rounds.items c.push-in-loop-step.new.self.items _
    c.loop-step-test.true c.loop-step.invariant
    (c.in_ok-push-2.ensures.items
    ∙ (ap (λ xs. xs ++ c.in_ok-combines.combines ∷ []) c.in_ok-push.ensures.items
    ∙ (append_assoc c.loop-step.rounds.items (c.in_ok-moves.moves ∷ []) (c.in_ok-combines.combines ∷ [])
    ∙ (ap (λ x. c.loop-step.rounds.items ++ x ∷ c.in_ok-combines.combines ∷ []) first
    ∙ ap (λ x. c.loop-step.rounds.items ++ move_at c.args.self.len c.args.self.n (2 ^ c.loop-step.step) c.args.r ∷ x ∷ []) second))))
