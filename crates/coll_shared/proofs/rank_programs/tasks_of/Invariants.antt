use Rattle.std.proofs.Common.{◌≡◌, ◌+◌, ◌≤◌, ◌++◌, map, vec_capacity, vec_len}
use Rattle.std.specs.Vec.Iter.{into_iter_items, into_iter_len}
use Rattle.coll_shared.proofs.rank_programs.tasks_of.Given as goal

abbrev pub invariant-loop-port : goal.invariant-loop-port
invariant-loop-port g l =
    (vec_len l.tasks + into_iter_len l.port-iterator ≡ vec_len l.fn.ports)
    × (into_iter_len l.rest ≡ into_iter_len l.port-iterator)
    × (vec_len l.fn.ports ≤ vec_capacity l.tasks)
    × (map (λ task. task.port) l.tasks.items ++ into_iter_items l.port-iterator ≡ l.fn.ports.items)
    × (map (λ task. task.program) l.tasks.items ++ into_iter_items l.rest ≡ l.fn.programs.items)
