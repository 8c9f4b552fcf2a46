use Rattle.std.proofs.Common.{◌≡◌, take}
use Rattle.coll_kinds.specs.Groups.{is_among}
use Rattle.coll_replay.proofs.carrying.names.Given as goal

abbrev pub invariant-loop-index : goal.invariant-loop-index
invariant-loop-index l = l.is_found ≡ is_among l.q (take l.index l.named)
