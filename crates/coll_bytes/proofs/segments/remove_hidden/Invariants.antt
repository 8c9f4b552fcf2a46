use Rattle.std.proofs.Common.{◌≡◌, ◌≤◌, ℕ, List, length}
use Rattle.coll_sched.specs.Regions.{written}
use Rattle.coll_bytes.specs.Laid.{AllInside, laid}
use Rattle.coll_bytes.proofs.segments.remove_hidden.Given as goal

abbrev pub invariant-loop-i : goal.invariant-loop-i
invariant-loop-i l = record {
  below : l.i ≤ length l.segments.items;
  all : AllInside l.size l.segments.items;
  hidden : (bytes : List ℕ) → length bytes ≡ l.region.len
      → written (laid l.size l.segments.items) l.region bytes ≡ written (laid l.size l.fn.segments.items) l.region bytes;
  fewer : length l.segments.items ≤ length l.fn.segments.items;
  capacity : l.segments.capacity ≡ l.fn.segments.capacity;
}

abbrev pub decreases-loop-i : goal.decreases-loop-i
decreases-loop-i l = l.i
