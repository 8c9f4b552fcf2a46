use Rattle.std.proofs.Common.{◌≡◌, take}
use Rattle.std.specs.List.{list_any}
use Rattle.coll_verdict.specs.Checking.{sure_at}
use Rattle.coll_verdict.proofs.order.one_is_sure.Given as goal

abbrev pub invariant-loop-index : goal.invariant-loop-index
invariant-loop-index l = l.is_found ≡ list_any (sure_at l.view.library.now l.view.ranks.now l.view.groups.now l.own) (take l.index l.named)
