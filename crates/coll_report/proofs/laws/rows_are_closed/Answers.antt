use Rattle.coll_report.proofs.Rows.{rows_are_closed}
use Rattle.coll_report.proofs.laws.rows_are_closed.Goals as goal

pub returns : goal.returns
returns c = rows_are_closed
