use Rattle.std.proofs.Common.{◌≡◌, ◌-◌, ◌++◌}
use Rattle.std.specs.Prelude.{flat_map}
use Rattle.std.specs.List.{range_with_len}
use Rattle.coll_report.specs.Views.{trace_seen}
use Rattle.coll_views.specs.Lines.{outcomes_of}
use Rattle.coll_views.proofs.outcomes.outcomes_json.Given as goal

abbrev pub invariant-loop-rank : goal.invariant-loop-rank
invariant-loop-rank l =
    l.out.items ++ flat_map (outcomes_of l.requests l.lines (trace_seen l.trace)) (range_with_len l.rank (l.ranks - l.rank))
    ≡ flat_map (outcomes_of l.requests l.lines (trace_seen l.trace)) (range_with_len 0 l.ranks)
