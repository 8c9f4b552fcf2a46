use Rattle.std.proofs.Common.{◌≡◌, None, replicate}
use Rattle.coll_arena.proofs.arena.no_records.Given as goal

abbrev pub invariant-loop-place : goal.invariant-loop-place
invariant-loop-place g l = l.made.items ≡ replicate l._place None
