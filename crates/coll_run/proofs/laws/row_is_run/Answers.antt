use Rattle.coll_run.proofs.AttestedRows.{row_is_run}
use Rattle.coll_run.proofs.laws.row_is_run.Goals as goal

pub returns : goal.returns
returns c = row_is_run
