-- each two pushes take two rounds from those that remain
use Rattle.std.proofs.Common.{◌≡◌, ◌≤◌, ◌^◌, [], ◌∷◌, ◌++◌, append_assoc, arith, refl, ap, ◌∙◌}
use Rattle.coll_trees.specs.Columns.{rounds_of}
use Rattle.coll_trees.proofs.Steps.{one_step}
use Rattle.coll_plans.specs.RecursiveDoublingHypercube.{across, corner, lowest, mate, fold_part}
use Rattle.coll_plans.specs.RecursiveDoubling.{joins_by, exchange_at, exchange_joins, exchanges, hypercube_rounds}
use Rattle.coll_plans.proofs.RecursiveDoublingHypercube.{pow_short}
use Rattle.coll_plans.proofs.recursive_doubling_rounds.RecursiveDoubling.push_exchanges.Goals as goal

pub exchanges-requires-clause-near : goal.exchanges-requires-clause-near
exchanges-requires-clause-near c =
    let e : c.pow-distance.result ≡ 2 ^ c.loop-step.step = c.pow-distance.ensures ∙ ap (λ k. 2 ^ k) c.from.ensures in
    let near : 2 ^ c.loop-step.step ≤ 32 = pow_short c.loop-step.step (omega arith) in omega arith

pub joins-requires-clause-near : goal.joins-requires-clause-near
joins-requires-clause-near c =
    let e : c.pow-distance.result ≡ 2 ^ c.loop-step.step = c.pow-distance.ensures ∙ ap (λ k. 2 ^ k) c.from.ensures in
    let near : 2 ^ c.loop-step.step ≤ 32 = pow_short c.loop-step.step (omega arith) in omega arith

pub loop-step-preserved : goal.loop-step-preserved
loop-step-preserved c =
    let e : c.pow-distance.result ≡ 2 ^ c.loop-step.step = c.pow-distance.ensures ∙ ap (λ k. 2 ^ k) c.from.ensures in
    let part : c.new-part.result ≡ fold_part c.args.self.cube.extra c.args.r = c.new-part.ensures in
    let place : c.corner-corner.result ≡ corner c.args.self.cube.extra c.args.r = c.corner-corner.ensures.corner in
    let first : c.in_ok-exchange.exchange ≡ exchange_at c.args.self.len c.args.self.cube.extra (2 ^ c.loop-step.step) c.args.r =
    c.in_ok-exchange.ensures.ok
    ∙ (ap (λ s. exchanges c.args.self.len (lowest c.args.self.cube.extra (across c.corner-corner.result s)) c.new-part.result) e
    ∙ (ap (λ q. exchanges c.args.self.len (lowest c.args.self.cube.extra (across q (2 ^ c.loop-step.step))) c.new-part.result) place
    ∙ ap (exchanges c.args.self.len (mate c.args.self.cube.extra (2 ^ c.loop-step.step) c.args.r)) part)) in
    let second : c.in_ok-join.join ≡ exchange_joins c.args.self.op c.args.self.ty c.args.self.len c.args.self.cube.extra (2 ^ c.loop-step.step) c.args.r =
    c.in_ok-join.ensures.ok
    ∙ (ap (λ s. joins_by c.args.self.op c.args.self.ty c.args.self.len c.corner-corner.result s c.new-part.result) e
    ∙ (ap (λ q. joins_by c.args.self.op c.args.self.ty c.args.self.len q (2 ^ c.loop-step.step) c.new-part.result) place
    ∙ ap (joins_by c.args.self.op c.args.self.ty c.args.self.len (corner c.args.self.cube.extra c.args.r) (2 ^ c.loop-step.step)) part)) in
    one_step (λ k m. rounds_of (hypercube_rounds c.args.self.op c.args.self.ty c.args.self.len c.args.self.cube.extra k m) c.args.r)
    (λ k. exchange_at c.args.self.len c.args.self.cube.extra (2 ^ k) c.args.r
    ∷ exchange_joins c.args.self.op c.args.self.ty c.args.self.len c.args.self.cube.extra (2 ^ k) c.args.r ∷ [])
    (λ k m. refl) c.loop-step.step c.args.self.cube.dimension c.loop-step.rounds.items c.push-in-loop-step.new.self.items _
    c.loop-step-test.true c.loop-step.invariant
    (c.in_ok-push-2.ensures.items
    ∙ (ap (λ xs. xs ++ c.in_ok-join.join ∷ []) c.in_ok-push.ensures.items
    ∙ (append_assoc c.loop-step.rounds.items (c.in_ok-exchange.exchange ∷ []) (c.in_ok-join.join ∷ [])
    ∙ (ap (λ x. c.loop-step.rounds.items ++ x ∷ c.in_ok-join.join ∷ []) first
    ∙ ap (λ x. c.loop-step.rounds.items ++ exchange_at c.args.self.len c.args.self.cube.extra (2 ^ c.loop-step.step) c.args.r ∷ x ∷ []) second))))
