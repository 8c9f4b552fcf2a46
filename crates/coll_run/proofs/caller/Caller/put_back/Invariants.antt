use Rattle.std.proofs.Common.{◌≤◌, length, vec_len}
use Rattle.coll_run.proofs.caller.Caller.put_back.Given as goal

abbrev pub invariant-loop-request : goal.invariant-loop-request
invariant-loop-request g l = vec_len l.list ≤ length l.named

abbrev pub decreases-loop-request : goal.decreases-loop-request
decreases-loop-request g l = vec_len l.list
