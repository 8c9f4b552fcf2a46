use Rattle.coll_report.specs.Views.{trace_seen}
use Rattle.coll_script.proofs.Loops.{flat_map_range-more}
use Rattle.coll_views.specs.Lines.{outcomes_of}
use Rattle.coll_views.proofs.outcomes.outcomes_json.Goals as goal

pub loop-rank-preserved : goal.loop-rank-preserved
loop-rank-preserved c =
    rw c.in_ok-print_rank.ensures
    (flat_map_range-more (outcomes_of c.args.requests.now c.args.lines.now (trace_seen c.args.trace.now)) c.args.ranks
    c.loop-rank.rank c.loop-rank.out.items _ c.loop-rank-test.true c.loop-rank.invariant)
