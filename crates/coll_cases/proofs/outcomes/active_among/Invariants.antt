use Rattle.std.proofs.Common.{◌≡◌, take, filter}
use Rattle.coll_cases.specs.Choosing.{may_be_active}
use Rattle.coll_cases.proofs.outcomes.active_among.Given as goal

abbrev pub invariant-loop-index : goal.invariant-loop-index
invariant-loop-index l = l.active.items ≡ filter (may_be_active l.known) (take l.index l.named)
