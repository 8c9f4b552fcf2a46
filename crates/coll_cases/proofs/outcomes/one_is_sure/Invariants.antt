use Rattle.std.proofs.Common.{◌≡◌, take}
use Rattle.std.specs.List.{list_any}
use Rattle.coll_cases.specs.Choosing.{is_sure}
use Rattle.coll_cases.proofs.outcomes.one_is_sure.Given as goal

abbrev pub invariant-loop-index : goal.invariant-loop-index
invariant-loop-index l = l.is_found ≡ list_any (is_sure l.known) (take l.index l.named)
