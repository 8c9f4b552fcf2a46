use Rattle.coll_script.proofs.Lacking.{fault-says}
use Rattle.coll_script.proofs.laws.faults_say_so.Goals as goal

pub returns : goal.returns
returns c = fault-says
