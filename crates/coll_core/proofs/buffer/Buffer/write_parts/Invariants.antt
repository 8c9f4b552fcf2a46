use Rattle.std.proofs.Common.{◌≡◌, ◌≤◌, length, vec_len}
use Rattle.coll_ops.specs.Values.{all_rows}
use Rattle.coll_sched.specs.Regions.{written}
use Rattle.coll_core.proofs.buffer.Buffer.write_parts.Given as goal

-- the parts that are left make the buffer what all parts make it
abbrev pub invariant-loop-part : goal.invariant-loop-part
invariant-loop-part l = record {
  count : vec_len l.rest ≡ length l.rest.items;
  size : length l.self ≡ length l.fn.self;
  end_is : l.end ≡ length (all_rows l.rest.items);
  within : l.end ≤ l.into.len;
  whole : written l.self (record { at = l.into.at; len = l.end }) (all_rows l.rest.items) ≡ written l.fn.self l.into (all_rows l.fn.parts.items);
}

abbrev pub decreases-loop-part : goal.decreases-loop-part
decreases-loop-part l = vec_len l.rest
