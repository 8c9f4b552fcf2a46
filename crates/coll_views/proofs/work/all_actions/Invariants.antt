use Rattle.std.proofs.Common.{◌≡◌, ◌++◌, drop}
use Rattle.std.specs.Prelude.{flat_map, List}
use Rattle.coll_sched.specs.declared.action.Action.{Action}
use Rattle.coll_views.specs.Works.{actions_in}
use Rattle.coll_views.proofs.work.all_actions.Given as goal

abbrev pub invariant-loop-round : goal.invariant-loop-round
invariant-loop-round l = l.actions.items ++ flat_map (λ (actions : List Action). actions) (drop l.round-index l.rounds) ≡ actions_in l.rounds
