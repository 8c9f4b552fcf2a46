use Rattle.coll_ops.specs.Contributions.{rows_of}
use Rattle.coll_ops.specs.Values.{value}
use Rattle.coll_ops.proofs.Prefixes.{rows_of-more}
use Rattle.coll_ops.proofs.values.each_value.Goals as goal

pub loop-r-preserved : goal.loop-r-preserved
loop-r-preserved c =
    rw c.in_ok-push.ensures.items
    (rows_of-more (value c.args.sig (rows_of c.args.given.now)) c.loop-r.values.items c.loop-r.r c.in_ok-plain_value.field-0
    c.loop-r.invariant c.in_ok-plain_value.ensures.ok)
