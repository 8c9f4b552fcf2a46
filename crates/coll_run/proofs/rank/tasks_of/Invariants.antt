use Rattle.std.proofs.Common.{◌≡◌, ◌++◌, map}
use Rattle.std.specs.Vec.Iter.{into_iter_items}
use Rattle.coll_run.proofs.rank.tasks_of.Given as goal

abbrev pub invariant-loop-port : goal.invariant-loop-port
invariant-loop-port g l = map (λ task. task.port) l.tasks.items ++ into_iter_items l.port-iterator ≡ l.fn.ports.items
