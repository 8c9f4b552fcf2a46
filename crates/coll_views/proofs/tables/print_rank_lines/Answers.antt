use Rattle.coll_script.proofs.Loops.{flat_map_range-more}
use Rattle.coll_views.specs.Tables.{rank_line}
use Rattle.coll_views.proofs.tables.print_rank_lines.Goals as goal

pub loop-rank-preserved : goal.loop-rank-preserved
loop-rank-preserved c =
    rw c.in_ok-print_rank.ensures
    (flat_map_range-more (rank_line c.args.rows.now) c.args.ranks c.loop-rank.rank c.loop-rank.out.items _ c.loop-rank-test.true c.loop-rank.invariant)
