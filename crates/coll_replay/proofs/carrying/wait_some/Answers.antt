use Rattle.std.proofs.Common.{inl, inr, refl}
use Rattle.std.proofs.lemmas.Bool.{not-true}
use Rattle.coll_replay.specs.Playing.{holding}
use Rattle.coll_replay.proofs.CarriedOut.{swept_at, waited_some}
use Rattle.coll_replay.proofs.carrying.wait_some.Goals as goal

pub returns-then-before : goal.returns-then-before
returns-then-before c = λ yes.
    waited_some c.args.core.now c.sweep.new.core c.args.rank (holding c.args.held.now) (holding c.sweep.new.held) c.in-Some.before c.args.named.now
    (swept_at c.args.core.now c.sweep.new.core c.args.rank c.args.named.now c.args.named.now (holding c.args.held.now)
    (holding c.sweep.new.held) c.in_ok-before.field-0 c.in-Some.before c.in_ok-before.ensures c.in-Some.is refl)
    (inl c.if-before.true)

pub returns-else-before : goal.returns-else-before
returns-else-before c = λ yes.
    waited_some c.args.core.now c.sweep.new.core c.args.rank (holding c.args.held.now) (holding c.sweep.new.held) c.in-Some.before c.args.named.now
    (swept_at c.args.core.now c.sweep.new.core c.args.rank c.args.named.now c.args.named.now (holding c.args.held.now)
    (holding c.sweep.new.held) c.in_ok-before.field-0 c.in-Some.before c.in_ok-before.ensures c.in-Some.is refl)
    (inr (not-true c.in-Some.before.has_active yes))
