use Rattle.coll_bytes.proofs.Laying.{read_next}
use Rattle.coll_bytes.proofs.composed.compose.Goals as goal

pub loop-segment-preserved : goal.loop-segment-preserved
loop-segment-preserved c =
    read_next c.args.size c.args.segments.now c.loop-segment.segment-index c.segment-item.result c.args.from c.loop-segment.out
    c.lay_over.new.out c.loop-segment-test.true c.segment-item.is c.requires.all c.requires.inside c.loop-segment.invariant c.lay_over.ensures
