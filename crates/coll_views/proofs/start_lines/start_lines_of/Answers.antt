use Rattle.std.proofs.Common.{ℕ}
use Rattle.std.specs.Prelude.{slice_index}
use Rattle.coll_machine.specs.Entries.{Entry}
use Rattle.coll_report.specs.Views.{seen}
use Rattle.coll_script.proofs.Loops.{drop-view}
use Rattle.coll_views.specs.StartLines.{start_lines_at}
use Rattle.coll_views.proofs.Loops.{enumerated-more}
use Rattle.coll_views.proofs.start_lines.start_lines_of.Goals as goal

pub loop-index-preserved : goal.loop-index-preserved
loop-index-preserved c =
    let front = drop-view seen c.args.trace.now c.loop-index.index c.index-trace-index.result c.loop-index-test.true c.index-trace-index.is in
    rw (c.in_ok-push_start_line.ensures, c.line_of_entry-line.ensures)
    (enumerated-more (λ (at : ℕ × Entry). start_lines_at c.args.rank (slice_index c.args.lines.now at.0) at.1) _
    c.loop-index.index (seen c.index-trace-index.result) c.loop-index.start_lines.items _ front c.loop-index.invariant)
