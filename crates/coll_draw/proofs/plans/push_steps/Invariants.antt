use Rattle.std.proofs.Common.{◌≡◌, ◌++◌, map, take}
use Rattle.coll_draw.specs.Drawings.{step_of}
use Rattle.coll_draw.proofs.plans.push_steps.Given as goal

abbrev pub invariant-loop-action : goal.invariant-loop-action
invariant-loop-action l =
    l.all.items ≡ l.initial.all.items ++ map (step_of l.round l.member) (take l.action-index l.actions)
