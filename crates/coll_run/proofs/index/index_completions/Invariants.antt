use Rattle.std.proofs.Common.{◌≡◌, drop}
use Rattle.coll_report.specs.Views.{trace_seen}
use Rattle.coll_run.specs.Index.{handed_in}
use Rattle.coll_run.specs.Lines.{Handed, told, told_from}
use Rattle.coll_run.proofs.index.index_completions.Given as goal

-- what is left of the trace adds to what was taken up
abbrev pub invariant-loop-entry : goal.invariant-loop-entry
invariant-loop-entry l =
    ◌≡◌ {A = Handed} (told_from (handed_in l.index.entries) (trace_seen (drop l.entry-index l.trace)))
    (told (trace_seen l.trace))
