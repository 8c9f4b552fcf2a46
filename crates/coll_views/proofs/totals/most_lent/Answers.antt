use Rattle.std.proofs.Common.{◌≡◌, arith}
use Rattle.std.specs.Prelude.{max}
use Rattle.coll_views.proofs.Lending.{most_lent-at}
use Rattle.coll_views.proofs.totals.most_lent.Goals as goal

pub loop-row-preserved : goal.loop-row-preserved
loop-row-preserved c =
    let next = c.in_ok-lent.lent in
    let most : c.max-most.result ≡ max c.loop-row.most next = c.max-most.ensures in
    record {
      low = omega (arith, most);
      so_far = rw most
          (most_lent-at c.loop-row.most c.loop-row.lent next c.args.rows.now c.loop-row.row-index _ _
          c.loop-row-test.true c.in_ok-lent.ensures c.loop-row.invariant.low c.loop-row.invariant.so_far);
    }
