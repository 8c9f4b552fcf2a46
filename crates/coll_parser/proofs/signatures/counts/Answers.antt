use Rattle.std.proofs.Common.{arith}
use Rattle.std.proofs.lemmas.Result.{err_from_is_err_and}
use Rattle.coll_parser.proofs.Counted.{AreCounted-more, AreCounted-stops}
use Rattle.coll_parser.proofs.signatures.counts.Goals as goal

pub returns-in_err-counts : goal.returns-in_err-counts
returns-in_err-counts c =
    let p = err_from_is_err_and c.from_residual.result c.from_residual.ensures.1 in
    rw (p.1, p.2) (AreCounted-stops c.args.n c.loop-i.i c.loop-i.counts c.loop-i.words c.args.words.now c.loop-i.invariant
    c.in_err-counts.field-0.0 (omega (arith, c.loop-i-test.true, c.from-i-end.ensures)) c.in_err-counts.ensures)

pub loop-i-preserved : goal.loop-i-preserved
loop-i-preserved c =
    AreCounted-more c.args.n c.loop-i.i c.loop-i.counts c.loop-i.words c.args.words.now c.loop-i.invariant c.in_ok-counts.field-0
    c.number_within.new.self (omega (arith, c.loop-i-test.true, c.from-i-end.ensures)) c.requires c.in_ok-counts.ensures
