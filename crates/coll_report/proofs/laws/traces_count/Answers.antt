use Rattle.coll_report.proofs.TracesTelling.{traces_count}
use Rattle.coll_report.proofs.laws.traces_count.Goals as goal

pub returns : goal.returns
returns c = traces_count
