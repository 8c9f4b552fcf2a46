use Rattle.std.proofs.Common.{◌≡◌, ◌≤◌, ◌-◌, take}
use Rattle.coll_sched.specs.Regions.{read_of}
use Rattle.coll_bytes.specs.Laid.{laid}
use Rattle.coll_bytes.proofs.composed.shows_bytes.Given as goal

-- the bytes so far are the same
abbrev pub invariant-loop-done : goal.invariant-loop-done
invariant-loop-done l = record { within : l.done ≤ l.from.len; same : take l.done (read_of (laid l.size l.segments) l.from) ≡ take l.done l.bytes }

abbrev pub decreases-loop-done : goal.decreases-loop-done
decreases-loop-done l = l.from.len - l.done
