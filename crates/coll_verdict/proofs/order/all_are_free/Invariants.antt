use Rattle.std.proofs.Common.{◌≡◌, take}
use Rattle.std.specs.List.{list_all}
use Rattle.coll_verdict.specs.Checking.{free_at}
use Rattle.coll_verdict.proofs.order.all_are_free.Given as goal

abbrev pub invariant-loop-index : goal.invariant-loop-index
invariant-loop-index l = l.holds ≡ list_all (free_at l.view.library.now l.view.ranks.now l.view.groups.now l.own) (take l.index l.named)
