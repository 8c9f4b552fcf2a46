use Rattle.coll_report.proofs.ScriptRows.{rows_are_told}
use Rattle.coll_report.proofs.laws.rows_are_told.Goals as goal

pub returns : goal.returns
returns c = rows_are_told
