use Rattle.std.proofs.Common.{◌≡◌, false}
use Rattle.coll_shared.proofs.locked.Locked.advance.Given as goal

abbrev pub invariant-loop-step : goal.invariant-loop-step
invariant-loop-step g l = l.self.stalled ≡ false
