use Rattle.std.proofs.Common.{◌<◌, ◌∙◌, length, arith, refl}
use Rattle.coll_core.specs.Cores.{seen, setting}
use Rattle.coll_serial.proofs.Listing.{go_accepted, go_fits, go_more, one_low}
use Rattle.coll_serial.proofs.engine.Engine.complete_parts.Goals as goal

pub complete_part-requires : goal.complete_part-requires
complete_part-requires c =
    let l = c.loop-part in
    let now = c.loop-part.auto.parts in
    let here = c.loop-part-test.true in
    let lt : l.part-index < length l.parts = omega (arith, now, here) in
    record {
      accepted =
          go_accepted (setting c.args.self.now) (setting l.self) c.args.rank (seen c.args.self.now) (seen l.self) c.args.parts.now
          l.parts c.args.out.now l.out l.part-index l.many _ l.invariant.set l.invariant.goes lt c.requires.accepted;
      fits =
          go_fits (setting c.args.self.now) (setting l.self) c.args.rank (seen c.args.self.now) (seen l.self) c.args.parts.now
          l.parts c.args.out.now l.out l.part-index l.many _ (length l.out) l.invariant.set l.invariant.long l.invariant.goes lt
          c.requires.fits;
    }

pub loop-part-preserved : goal.loop-part-preserved
loop-part-preserved c =
    let l = c.loop-part in
    let now = c.loop-part.auto.parts in
    let here = c.loop-part-test.true in
    let lt : l.part-index < length l.parts = omega (arith, now, here) in
    let q = c.complete_part.new.part in
    let one = one_low q.completed c.one_if-many.result c.one_if-many.ensures in
    let few = c.loop-part.invariant.few in
    record {
      set = c.complete_part.ensures.setting ∙ l.invariant.set;
      few = omega (arith, one, few);
      long = c.complete_part.ensures.length ∙ l.invariant.long;
      goes =
          go_more (setting c.args.self.now) (setting l.self) c.args.rank (seen c.args.self.now) (seen l.self)
          (seen c.complete_part.new.self) c.args.parts.now l.parts c.args.out.now l.out c.complete_part.new.out l.part-index l.many
          _ c.one_if-many.result _ q l.invariant.set c.requires.distinct c.requires.accepted l.invariant.goes lt
          c.complete_part.ensures.completes refl c.one_if-many.ensures;
    }
