use Rattle.std.proofs.Common.{◌≡◌, vec_len}
use Rattle.coll_bench.proofs.overlap.programs.Given as goal

abbrev pub invariant-loop-rank : goal.invariant-loop-rank
invariant-loop-rank g l = vec_len l.all ≡ l._rank
