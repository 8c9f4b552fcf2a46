-- the theorem of Plans
use Rattle.coll_plans.proofs.Plans.{all_served}
use Rattle.coll_plans.proofs.laws.families_serve.Goals as goal

pub returns : goal.returns
returns c = all_served
