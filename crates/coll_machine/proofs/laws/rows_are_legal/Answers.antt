use Rattle.coll_machine.proofs.Rows.{rows_are_legal}
use Rattle.coll_machine.proofs.laws.rows_are_legal.Goals as goal

pub returns : goal.returns
returns c = rows_are_legal
