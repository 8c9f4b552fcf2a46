use Rattle.std.proofs.Common.{◌≡◌, ◌≤◌, ◌-◌}
use Rattle.coll_ops.specs.Values.{all_rows}
use Rattle.coll_sched.specs.Regions.{read_of}
use Rattle.coll_core.proofs.long.Long.parts.Given as goal

-- the parts so far have the front of the region
abbrev pub invariant-loop-done : goal.invariant-loop-done
invariant-loop-done l = record {
  within : l.done ≤ l.from.len;
  front : all_rows l.parts.items ≡ read_of l.self.segments.bytes (record { at = l.from.at; len = l.done });
  same : l.self.segments ≡ l.fn.self.segments;
}

abbrev pub decreases-loop-done : goal.decreases-loop-done
decreases-loop-done l = l.from.len - l.done
