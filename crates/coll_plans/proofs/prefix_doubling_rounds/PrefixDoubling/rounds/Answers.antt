-- each two pushes take two rounds from those that remain
use Rattle.std.proofs.Common.{◌≡◌, ◌≤◌, ◌^◌, [], ◌∷◌, ◌++◌, append_assoc, arith, refl, ap, ◌∙◌}
use Rattle.coll_trees.specs.Columns.{rounds_of}
use Rattle.coll_trees.proofs.Depths.{pow_near}
use Rattle.coll_trees.proofs.Steps.{one_step}
use Rattle.coll_plans.specs.PrefixDoubling.{shift, joins, doubling}
use Rattle.coll_plans.proofs.prefix_doubling_rounds.PrefixDoubling.rounds.Goals as goal

pub shift-requires-clause-near : goal.shift-requires-clause-near
shift-requires-clause-near c =
    let e : c.pow-distance.result ≡ 2 ^ c.loop-step.step = c.pow-distance.ensures ∙ ap (λ k. 2 ^ k) c.from-in-loop-step.ensures in
    let near : 2 ^ c.loop-step.step ≤ 64 = pow_near c.loop-step.step (omega arith) in omega arith

pub loop-step-preserved : goal.loop-step-preserved
loop-step-preserved c =
    let e : c.pow-distance.result ≡ 2 ^ c.loop-step.step = c.pow-distance.ensures ∙ ap (λ k. 2 ^ k) c.from-in-loop-step.ensures in
    let first : c.in_ok-shift.shift ≡ shift c.args.self.len c.args.self.n (2 ^ c.loop-step.step) c.args.r =
    c.in_ok-shift.ensures.ok ∙ ap (λ s. shift c.args.self.len c.args.self.n s c.args.r) e in
    let second : c.in_ok-join.join ≡ joins c.args.self.exclusive c.args.self.op c.args.self.ty c.args.self.len (2 ^ c.loop-step.step) c.args.r =
    c.in_ok-join.ensures.ok ∙ ap (λ s. joins c.args.self.exclusive c.args.self.op c.args.self.ty c.args.self.len s c.args.r) e in
    one_step (λ k m. rounds_of
    (doubling c.args.self.len c.args.self.n (joins c.args.self.exclusive c.args.self.op c.args.self.ty c.args.self.len) k m) c.args.r)
    (λ k. shift c.args.self.len c.args.self.n (2 ^ k) c.args.r
    ∷ joins c.args.self.exclusive c.args.self.op c.args.self.ty c.args.self.len (2 ^ k) c.args.r ∷ [])
    (λ k m. refl) c.loop-step.step c.depth_of-steps.result c.loop-step.rounds.items c.push-in-loop-step.new.self.items _
    c.loop-step-test.true c.loop-step.invariant
    (c.in_ok-push-2.ensures.items
    ∙ (ap (λ xs. xs ++ c.in_ok-join.join ∷ []) c.in_ok-push.ensures.items
    ∙ (append_assoc c.loop-step.rounds.items (c.in_ok-shift.shift ∷ []) (c.in_ok-join.join ∷ [])
    ∙ (ap (λ x. c.loop-step.rounds.items ++ x ∷ c.in_ok-join.join ∷ []) first
    ∙ ap (λ x. c.loop-step.rounds.items ++ shift c.args.self.len c.args.self.n (2 ^ c.loop-step.step) c.args.r ∷ x ∷ []) second))))
