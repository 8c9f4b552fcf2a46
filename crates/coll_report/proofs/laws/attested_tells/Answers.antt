use Rattle.coll_report.proofs.Telling.{attested_tells}
use Rattle.coll_report.proofs.laws.attested_tells.Goals as goal

pub returns : goal.returns
returns c = attested_tells
