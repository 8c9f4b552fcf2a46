use Rattle.coll_report.proofs.Strangers.{strangers_are_silent}
use Rattle.coll_report.proofs.laws.strangers_are_silent.Goals as goal

pub returns : goal.returns
returns c = strangers_are_silent
