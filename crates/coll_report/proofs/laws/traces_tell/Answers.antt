use Rattle.coll_report.proofs.TracesTelling.{traces_tell}
use Rattle.coll_report.proofs.laws.traces_tell.Goals as goal

pub returns : goal.returns
returns c = traces_tell
