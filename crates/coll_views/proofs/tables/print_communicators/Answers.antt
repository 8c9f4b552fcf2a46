use Rattle.std.proofs.Common.{ℕ, List, Vec}
use Rattle.std.specs.Global.{Global}
use Rattle.coll_script.proofs.Loops.{drop-view, text-more}
use Rattle.coll_views.specs.Tables.{comm_lines}
use Rattle.coll_views.proofs.tables.print_communicators.Goals as goal

pub loop-comm-preserved : goal.loop-comm-preserved
loop-comm-preserved c =
    let front = drop-view (λ (v : Vec ℕ Global). v.items) c.args.groups.now c.loop-comm.comm c.index-groups-comm.result
    c.loop-comm-test.true c.index-groups-comm.is in
    rw (c.in_ok-print_communicator.ensures, c.deref.ensures.value)
    (text-more (λ (at : ℕ × List ℕ). comm_lines c.args.requests.now c.args.rows.now at.0 at.1) _ c.loop-comm.comm _
    c.loop-comm.out.items _ front c.loop-comm.invariant)
