use Rattle.std.proofs.Common.{◌≡◌, take}
use Rattle.coll_sched.specs.Regions.{read_of}
use Rattle.coll_bytes.specs.Laid.{laid}
use Rattle.coll_bytes.proofs.composed.compose.Given as goal

-- the region as the segments so far have it
abbrev pub invariant-loop-segment : goal.invariant-loop-segment
invariant-loop-segment l = l.out ≡ read_of (laid l.size (take l.segment-index l.segments)) l.from
