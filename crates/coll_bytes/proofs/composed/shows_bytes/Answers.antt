use Rattle.std.proofs.Common.{◌+◌, ◌≤◌, length, ap, arith}
use Rattle.coll_sched.specs.declared.region.Region.{Region}
use Rattle.coll_bytes.specs.declared.bytes.TheConstants.{FEW}
use Rattle.coll_bytes.specs.Laid.{laid}
use Rattle.coll_bytes.proofs.Laying.{length_laid}
use Rattle.coll_bytes.proofs.Comparing.{same_few, same_next, within_few}
use Rattle.coll_bytes.proofs.composed.shows_bytes.Goals as goal

pub returns-then-not-shows_few : goal.returns-then-not-shows_few
returns-then-not-shows_few c =
    let long = length_laid c.args.size c.args.segments.now c.requires.all in
    let within =
    within_few c.loop-done.done c.args.from.len FEW c.few_behind-part.result.len c.loop-done.invariant.within
    (ap (λ (g : Region). g.len) c.few_behind-part.ensures) in
    let inside : c.args.from.at + c.args.from.len ≤ length (laid c.args.size c.args.segments.now) = omega (arith, long, c.requires.inside) in (
      λ yes. cc,
      λ same.
          let yes = c.shows_few.ensures.1
          (same_few (laid c.args.size c.args.segments.now) c.args.bytes.now c.read.result.now c.args.from c.few_behind-part.result c.loop-done.done
          inside within (ap (λ (g : Region). g.at) c.few_behind-part.ensures) c.read.ensures same) in cc,
    )

pub loop-done-preserved : goal.loop-done-preserved
loop-done-preserved c =
    let long = length_laid c.args.size c.args.segments.now c.requires.all in
    let within =
    within_few c.loop-done.done c.args.from.len FEW c.few_behind-part.result.len c.loop-done.invariant.within
    (ap (λ (g : Region). g.len) c.few_behind-part.ensures) in
    let inside : c.args.from.at + c.args.from.len ≤ length (laid c.args.size c.args.segments.now) = omega (arith, long, c.requires.inside) in
    record {
      within = within;
      same = same_next (laid c.args.size c.args.segments.now) c.args.bytes.now c.read.result.now c.args.from c.few_behind-part.result c.loop-done.done
          inside within (ap (λ (g : Region). g.at) c.few_behind-part.ensures) c.read.ensures c.loop-done.invariant.same
          (c.shows_few.ensures.0 c.if-not-shows_few.false);
    }
