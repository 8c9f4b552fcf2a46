use Rattle.std.proofs.Common.{subst}
use Rattle.coll_report.specs.Reports.{IsClosed}
use Rattle.coll_report.proofs.Telling.{attested_tells}
use Rattle.coll_report.proofs.report.Report.tells.Goals as goal

pub returns : goal.returns
returns c = λ script. attested_tells c.args.self.now script (subst IsClosed c.self.view_is c.self.invariant)
