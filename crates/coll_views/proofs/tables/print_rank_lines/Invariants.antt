use Rattle.std.proofs.Common.{◌≡◌, ◌-◌, ◌++◌}
use Rattle.std.specs.Prelude.{flat_map}
use Rattle.std.specs.List.{range_with_len}
use Rattle.coll_views.specs.Tables.{rank_line, rank_lines}
use Rattle.coll_views.proofs.tables.print_rank_lines.Given as goal

abbrev pub invariant-loop-rank : goal.invariant-loop-rank
invariant-loop-rank l =
    l.out.items ++ flat_map (rank_line l.rows) (range_with_len l.rank (l.ranks - l.rank))
    ≡ l.initial.out.items ++ rank_lines l.ranks l.rows
