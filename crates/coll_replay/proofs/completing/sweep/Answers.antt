use Rattle.std.proofs.Common.{◌≡◌, false, sym, ◌∙◌, arith}
use Rattle.coll_core.specs.Cores.{seen}
use Rattle.coll_verdict.specs.Standings.{is_done}
use Rattle.coll_replay.specs.Playing.{held_at}
use Rattle.coll_replay.proofs.Sweeping.{none_among}
use Rattle.coll_replay.proofs.completing.sweep.Goals as goal

pub returns : goal.returns
returns c =
    let none : c.in_ok-after.after.has_done ≡ false = grind arith in
    record {
      set = c.complete_each.ensures.setting;
      completes = c.in_ok-complete_each.ensures.completes;
      none_left =
          none_among (λ q. is_done (seen c.complete_each.new.core) (held_at c.complete_each.new.held q)) c.args.named.now
          (sym c.in_ok-after.ensures.done ∙ none);
      was = c.in_ok-before.ensures;
    }
