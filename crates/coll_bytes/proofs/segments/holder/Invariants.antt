use Rattle.std.proofs.Common.{◌≡◌, ◌≤◌, length, take}
use Rattle.coll_sched.specs.Regions.{read_of}
use Rattle.coll_bytes.specs.Laid.{laid}
use Rattle.coll_bytes.proofs.segments.holder.Given as goal

-- the newer segments have nothing of the region
abbrev pub invariant-loop-i : goal.invariant-loop-i
invariant-loop-i l = record {
  below : l.i ≤ length l.segments;
  same : read_of (laid l.size l.segments) l.from
      ≡ read_of (laid l.size (take l.i l.segments)) l.from;
}

abbrev pub decreases-loop-i : goal.decreases-loop-i
decreases-loop-i l = l.i
