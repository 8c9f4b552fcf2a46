use Rattle.std.proofs.Common.{◌≡◌, ap, ◌∙◌, sym}
use Rattle.coll_machine.specs.Entries.{Entry}
use Rattle.coll_report.specs.Views.{seen}
use Rattle.coll_script.proofs.Loops.{drop-view, map-more}
use Rattle.coll_views.specs.Requests.{named}
use Rattle.coll_views.specs.Rows.{row_of}
use Rattle.coll_views.proofs.row.rows_of.Goals as goal

pub loop-entry-preserved : goal.loop-entry-preserved
loop-entry-preserved c =
    let e = seen c.entry-item.result in
    let front = drop-view seen c.args.trace.now c.loop-entry.entry-index c.entry-item.result c.loop-entry-test.true c.entry-item.is in
    let made : c.row_of.result ≡ row_of (named c.args.requests.now e) e =
    c.row_of.ensures ∙ ap (λ found. row_of found e) (sym c.in_ok-found.ensures) in
    rw c.in_ok-push.ensures.items
    (map-more (λ (x : Entry). row_of (named c.args.requests.now x) x) _ c.loop-entry.entry-index e c.loop-entry.rows.items _
    c.row_of.result front made c.loop-entry.invariant)
