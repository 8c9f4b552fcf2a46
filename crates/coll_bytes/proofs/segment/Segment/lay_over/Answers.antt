use Rattle.std.proofs.Common.{refl}
use Rattle.coll_bytes.specs.Laid.{place_of}
use Rattle.coll_bytes.proofs.Writes.{missed, overlaid}
use Rattle.coll_bytes.proofs.segment.Segment.lay_over.Goals as goal

pub returns-in_default : goal.returns-in_default
returns-in_default c =
    λ buffer h inside was. missed buffer c.args.self.now.bytes c.args.out.now c.place-place.result (place_of c.args.self.now)
    c.args.from c.place-place.ensures h refl c.in_default.ensures.none inside was

pub returns : goal.returns
returns c = λ buffer h inside was. overlaid buffer c.as_slice.result.now c.args.self.now.bytes c.read-own.result.now
    c.args.out.now c.write.new.buf c.place-place.result (place_of c.args.self.now) c.args.from c.in-Some.common
    c.seen_from.result c.seen_from-2.result c.place-place.ensures c.as_slice.ensures c.seen_from.ensures c.read-own.ensures
    c.seen_from-2.ensures c.write.ensures c.in-Some.ensures.common h refl inside was
