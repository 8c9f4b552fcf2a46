use Rattle.coll_script.proofs.Lacking.{script-belongs}
use Rattle.coll_script.proofs.laws.scripts_belong.Goals as goal

pub returns : goal.returns
returns c = script-belongs
