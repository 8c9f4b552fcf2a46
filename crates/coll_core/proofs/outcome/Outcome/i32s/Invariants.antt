use Rattle.std.proofs.Common.{◌≡◌, ◌<◌, ℕ, ◌++◌, ◌%◌, length, slice_index}
use Rattle.coll_core.specs.Numbers.{number_bytes}
use Rattle.coll_core.proofs.outcome.Outcome.i32s.Given as goal

abbrev pub invariant-loop-first : goal.invariant-loop-first
invariant-loop-first l = record {
  read : number_bytes l.numbers.items ++ l.rest ≡ l.fn.self.bytes;
  left : length l.rest % 4 ≡ length l.fn.self.bytes % 4;
  bytes : (i : ℕ) → slice_index l.rest i < 256;
}

abbrev pub decreases-loop-first : goal.decreases-loop-first
decreases-loop-first l = length l.rest
