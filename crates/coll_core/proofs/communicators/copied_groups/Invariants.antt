use Rattle.std.proofs.Common.{◌≡◌, take}
use Rattle.coll_core.specs.Communicators.{groups_seen}
use Rattle.coll_core.proofs.communicators.copied_groups.Given as goal

abbrev pub invariant-loop-group : goal.invariant-loop-group
invariant-loop-group l = groups_seen l.copy.items ≡ groups_seen (take l.group-index l.groups)
