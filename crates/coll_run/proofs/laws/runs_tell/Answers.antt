use Rattle.coll_run.proofs.Telling.{runs_tell}
use Rattle.coll_run.proofs.laws.runs_tell.Goals as goal

pub returns : goal.returns
returns c = runs_tell
