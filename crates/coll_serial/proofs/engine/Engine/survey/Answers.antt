use Rattle.std.proofs.Common.{arith}
use Rattle.coll_core.specs.Cores.{seen, setting}
use Rattle.coll_serial.proofs.Finding.{surveyed}
use Rattle.coll_serial.proofs.engine.Engine.survey.Goals as goal

pub returns-clause-done : goal.returns-clause-done
returns-clause-done c =
    surveyed (setting c.args.self.now) (seen c.args.self.now) c.args.rank c.args.parts.now c.loop-position.position
    c.loop-position.survey c.loop-position.invariant (omega arith)
