use Rattle.coll_views.specs.Tables.{collective_line}
use Rattle.coll_views.proofs.Loops.{flat_map-at}
use Rattle.coll_views.proofs.tables.print_lines.Goals as goal

pub loop-sig-preserved : goal.loop-sig-preserved
loop-sig-preserved c =
    rw c.in_ok-print_collective.ensures
    (flat_map-at (collective_line c.args.rows.now c.args.comm c.args.members) c.args.collectives.now c.loop-sig.sig-index _
    c.loop-sig.out.items _ c.loop-sig-test.true c.loop-sig.invariant)
