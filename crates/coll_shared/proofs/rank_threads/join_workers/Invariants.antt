use Rattle.std.proofs.Common.{◌≡◌, ◌+◌, All, IfSome, vec_capacity, vec_len}
use Rattle.std.specs.Vec.Iter.{into_iter_len}
use Rattle.coll_traced.specs.Awaiting.{IsSetback}
use Rattle.coll_shared.proofs.rank_threads.join_workers.Given as goal

abbrev pub invariant-loop-thread : goal.invariant-loop-thread
invariant-loop-thread g l =
    (vec_len l.ends + into_iter_len l.thread-iterator ≡ vec_len l.fn.threads)
    × (vec_capacity l.ends ≡ vec_capacity l.initial.ends)
    × All (λ end. IfSome end IsSetback) l.ends.items
