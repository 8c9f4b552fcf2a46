use Rattle.coll_parser.proofs.Lists.{drop-more}
use Rattle.coll_run.proofs.Indexing.{told-more}
use Rattle.coll_run.proofs.index.index_completions.Goals as goal

pub loop-entry-preserved : goal.loop-entry-preserved
loop-entry-preserved c =
    told-more c.args.trace.now c.loop-entry.entry-index c.entry-item.result c.loop-entry.index.entries
    c.note.new.index.entries _
    (drop-more c.args.trace.now c.loop-entry.entry-index c.entry-item.result c.loop-entry-test.true c.entry-item.is)
    c.in_ok-note.ensures c.loop-entry.invariant
