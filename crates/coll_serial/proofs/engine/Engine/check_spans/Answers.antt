use Rattle.std.proofs.Common.{arith}
use Rattle.std.proofs.lemmas.Option.{slice_get_within}
use Rattle.coll_core.specs.Cores.{seen, setting}
use Rattle.coll_serial.proofs.Finding.{more_fit}
use Rattle.coll_serial.proofs.engine.Engine.check_spans.Goals as goal

pub loop-part-preserved : goal.loop-part-preserved
loop-part-preserved c =
    more_fit (setting c.args.self.now) (seen c.args.self.now) c.args.rank c.args.parts.now c.args.len c.loop-part.part-index _
    c.requires.accepted c.loop-part-test.true c.loop-part.invariant c.in_ok-check_span.ensures.fits

pub returns-clause-fits : goal.returns-clause-fits
returns-clause-fits c i p at =
    let low = slice_get_within c.args.parts.now i p at in
    c.loop-part.invariant i p (omega (arith, low)) at
