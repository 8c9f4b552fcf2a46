use Rattle.std.proofs.Common.{◌≡◌, ◌<◌, ℕ, length, slice_index}
use Rattle.coll_lists.specs.Columns.{opening_next, opening_prev}
use Rattle.coll_lists.proofs.columns.Columns.new.Given as goal

abbrev pub invariant-loop-at : goal.invariant-loop-at
invariant-loop-at l = record {
  next_len : length l.next.items ≡ l.at;
  prev_len : length l.prev.items ≡ l.at;
  next : (k : ℕ) → k < l.at → slice_index l.next.items k ≡ opening_next l.nodes k;
  prev : (k : ℕ) → k < l.at → slice_index l.prev.items k ≡ opening_prev l.nodes k;
}
