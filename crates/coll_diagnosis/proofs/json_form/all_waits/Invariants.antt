use Rattle.std.proofs.Common.{take}
use Rattle.std.specs.String.{string_bytes}
use Rattle.coll_diagnosis.specs.Details.{AreWaits}
use Rattle.coll_diagnosis.proofs.json_form.all_waits.Given as goal

abbrev pub invariant-loop-stuck : goal.invariant-loop-stuck
invariant-loop-stuck l = AreWaits (take l.stuck-index l.ranks) (string_bytes l.lines)
