use Rattle.coll_run.proofs.Meant.{runs_mean}
use Rattle.coll_run.proofs.laws.runs_mean.Goals as goal

pub returns : goal.returns
returns c = runs_mean
