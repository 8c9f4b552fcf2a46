use Rattle.coll_plans.proofs.Hearings.{heard_is_heard}
use Rattle.coll_plans.proofs.laws.heard_is_heard.Goals as goal

pub returns : goal.returns
returns c = heard_is_heard
