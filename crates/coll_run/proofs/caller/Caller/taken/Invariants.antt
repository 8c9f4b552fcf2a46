use Rattle.std.proofs.Common.{◌≡◌, ◌≤◌, length, vec_capacity, vec_len}
use Rattle.coll_run.proofs.caller.Caller.taken.Given as goal

abbrev pub invariant-loop-at : goal.invariant-loop-at
invariant-loop-at g l = (vec_len l.list ≡ l.at) × (length l.named ≤ vec_capacity l.list)
