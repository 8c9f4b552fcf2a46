use Rattle.coll_machine.proofs.Tracing.{runs_are_traced}
use Rattle.coll_machine.proofs.laws.runs_are_traced.Goals as goal

pub returns : goal.returns
returns c = runs_are_traced
