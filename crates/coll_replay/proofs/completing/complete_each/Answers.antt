use Rattle.std.proofs.Common.{◌<◌, length, refl, subst, ◌∙◌, arith}
use Rattle.coll_machine.specs.Common.{Setting}
use Rattle.coll_core.specs.Cores.{seen, setting}
use Rattle.coll_verdict.specs.Standings as standings
use Rattle.coll_replay.specs.Calls.{CompletedIf}
use Rattle.coll_replay.specs.Playing.{holding}
use Rattle.coll_replay.proofs.Sweeping.{among_at, completes_if}
use Rattle.coll_replay.proofs.completing.complete_each.Goals as goal

pub loop-index-init : goal.loop-index-init
loop-index-init c = record { set = refl; completes = standings.none }

pub loop-index-preserved : goal.loop-index-preserved
loop-index-preserved c =
    let low : c.loop-index.index < length c.args.named.now = omega (arith, c.loop-index-test.true, c.len-index-end.ensures) in
    record {
      set = c.complete.ensures.setting ∙ c.loop-index.invariant.set;
      completes =
          completes_if c.in_ok-complete.field-0 (setting c.args.core.now) c.args.rank c.args.named.now c.get.result (seen c.args.core.now)
          (seen c.loop-index.core) (seen c.complete.new.core) (holding c.args.held.now) (holding c.loop-index.held) (holding c.complete.new.held)
          (among_at c.args.named.now c.loop-index.index c.get.result low c.get.ensures) c.loop-index.invariant.completes
          (subst (λ (g : Setting). CompletedIf c.in_ok-complete.field-0 g c.args.rank c.get.result (seen c.loop-index.core) (seen c.complete.new.core)
          (holding c.loop-index.held) (holding c.complete.new.held)) c.loop-index.invariant.set c.in_ok-complete.ensures.completes);
    }
