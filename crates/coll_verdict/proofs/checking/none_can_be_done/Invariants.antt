use Rattle.std.proofs.Common.{◌≡◌, take}
use Rattle.std.specs.List.{list_all}
use Rattle.coll_verdict.specs.Checking.{cant_at}
use Rattle.coll_verdict.proofs.checking.none_can_be_done.Given as goal

abbrev pub invariant-loop-index : goal.invariant-loop-index
invariant-loop-index l = l.holds ≡ list_all (cant_at l.view.library.now l.view.ranks.now l.view.groups.now l.own) (take l.index l.named)
