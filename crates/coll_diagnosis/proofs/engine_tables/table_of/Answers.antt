use Rattle.coll_diagnosis.proofs.HearingRounds.{table_is}
use Rattle.coll_diagnosis.proofs.engine_tables.table_of.Goals as goal

pub returns : goal.returns
returns c = table_is c.args.sig c.args.n c.in_ok-rows.rows c.in_ok-rows.ensures
