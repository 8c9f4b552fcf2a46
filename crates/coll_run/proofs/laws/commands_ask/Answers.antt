use Rattle.coll_run.proofs.Asking.{commands_ask}
use Rattle.coll_run.proofs.laws.commands_ask.Goals as goal

pub returns : goal.returns
returns c = commands_ask
