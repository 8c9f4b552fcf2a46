use Rattle.coll_report.specs.Views.{seen}
use Rattle.coll_script.proofs.Loops.{drop-view}
use Rattle.coll_views.specs.Lines.{outcome_of}
use Rattle.coll_views.proofs.Loops.{flat_map-more}
use Rattle.coll_views.proofs.outcomes.print_entries.Goals as goal

pub loop-entry-preserved : goal.loop-entry-preserved
loop-entry-preserved c =
    let front = drop-view seen c.args.trace.now c.loop-entry.entry-index c.entry-item.result c.loop-entry-test.true c.entry-item.is in
    rw c.in_ok-print_entry.ensures
    (flat_map-more (outcome_of c.args.requests.now c.args.start_lines.now c.args.rank) _ c.loop-entry.entry-index
    (seen c.entry-item.result) c.loop-entry.out.items _ front c.loop-entry.invariant)
