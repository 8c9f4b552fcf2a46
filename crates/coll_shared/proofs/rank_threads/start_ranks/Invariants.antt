use Rattle.std.proofs.Common.{◌≡◌, ◌+◌, ◌++◌, map, vec_capacity, vec_len}
use Rattle.std.specs.Vec.Iter.{into_iter_items, into_iter_len}
use Rattle.coll_shared.proofs.rank_threads.start_ranks.Given as goal

abbrev pub invariant-loop-task : goal.invariant-loop-task
invariant-loop-task g l =
    (vec_len l.threads + into_iter_len l.task-iterator ≡ vec_len l.fn.tasks)
    × (vec_capacity l.threads ≡ vec_capacity l.initial.threads)
    × (map (λ thread. thread.promise.0.value) l.threads.items ++ into_iter_items l.task-iterator ≡ l.fn.tasks.items)
