use Rattle.std.proofs.Common.{ℕ}
use Rattle.std.specs.Prelude.{slice_index}
use Rattle.coll_machine.specs.Entries.{Entry}
use Rattle.coll_report.specs.Views.{seen}
use Rattle.coll_script.proofs.Loops.{drop-view, text-more}
use Rattle.coll_views.specs.Lines.{entry_line}
use Rattle.coll_views.proofs.trace.trace_text.Goals as goal

pub loop-index-preserved : goal.loop-index-preserved
loop-index-preserved c =
    let front = drop-view seen c.args.trace.now c.loop-index.index c.index-trace-index.result c.loop-index-test.true c.index-trace-index.is in
    rw (c.in_ok-print_entry.ensures, c.line_of_entry-line.ensures)
    (text-more (λ (at : ℕ × Entry). entry_line c.args.requests.now (slice_index c.args.lines.now at.0) at.1) _ c.loop-index.index
    (seen c.index-trace-index.result) c.loop-index.out.items _ front c.loop-index.invariant)
