use Rattle.std.proofs.Common.{◌≡◌, ◌++◌, drop}
use Rattle.coll_views.proofs.work.push_all.Given as goal

abbrev pub invariant-loop-action : goal.invariant-loop-action
invariant-loop-action l = l.actions.items ++ drop l.action-index l.more ≡ l.initial.actions.items ++ l.more
