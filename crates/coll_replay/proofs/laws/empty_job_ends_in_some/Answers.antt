use Rattle.coll_replay.proofs.Rows.{empty_job_ends_in_some}
use Rattle.coll_replay.proofs.laws.empty_job_ends_in_some.Goals as goal

pub returns : goal.returns
returns c = empty_job_ends_in_some
