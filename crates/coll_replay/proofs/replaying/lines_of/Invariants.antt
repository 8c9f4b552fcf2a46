use Rattle.std.proofs.Common.{◌≡◌, ℕ, length, ltb, [], if◌then◌else◌}
use Rattle.std.specs.Prelude.{slice_get}
use Rattle.coll_parser.specs.Histories.{commands_of}
use Rattle.coll_replay.specs.Playing.{commands_in}
use Rattle.coll_replay.proofs.replaying.lines_of.Given as goal

abbrev pub invariant-loop-rank : goal.invariant-loop-rank
invariant-loop-rank l = record {
  count : length l.lines.items ≡ l.rank;
  each : (k : ℕ) → commands_in (slice_get l.lines.items k) ≡ (if ltb k l.rank then commands_of l.history k else []);
}
