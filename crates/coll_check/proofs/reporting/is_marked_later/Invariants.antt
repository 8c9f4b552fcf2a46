use Rattle.std.proofs.Common.{◌≡◌, drop}
use Rattle.coll_check.specs.Reports.{is_marked_later}
use Rattle.coll_check.proofs.reporting.is_marked_later.Given as goal

abbrev pub invariant-loop-index : goal.invariant-loop-index
invariant-loop-index l = is_marked_later l.mark l.bytes ≡ is_marked_later l.mark (drop l.index l.bytes)
