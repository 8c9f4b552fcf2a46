use Rattle.std.proofs.Common.{◌≡◌, ◌+◌, vec_capacity, vec_len}
use Rattle.std.specs.Vec.Iter.{into_iter_items, into_iter_len}
use Rattle.coll_shared.proofs.RankThreads.{AreJoined}
use Rattle.coll_shared.proofs.rank_threads.join_ranks.Given as goal

abbrev pub invariant-loop-thread : goal.invariant-loop-thread
invariant-loop-thread g l =
    (vec_len l.ends + into_iter_len l.thread-iterator ≡ vec_len l.fn.threads)
    × (vec_capacity l.ends ≡ vec_capacity l.initial.ends)
    × AreJoined (λ thread end. g.K.RankTask.IsEnd thread.promise.0.value end) l.fn.threads.items (into_iter_items l.thread-iterator) l.ends.items
