use Rattle.std.proofs.Common.{◌≡◌, vec_capacity, vec_len}
use Rattle.coll_shared.proofs.rank_threads.start_workers.Given as goal

abbrev pub invariant-loop : goal.invariant-loop
invariant-loop g l = (vec_len l.threads ≡ l.counter) × (vec_capacity l.threads ≡ vec_capacity l.initial.threads)
