use Rattle.std.proofs.Common.{◌≡◌, replicate}
use Rattle.coll_queues.proofs.posting_lists.zeros.Given as goal

abbrev pub invariant-loop-member : goal.invariant-loop-member
invariant-loop-member l = l.made.items ≡ replicate l._member 0
