use Rattle.coll_core.specs.Steps.{none}
use Rattle.worzsunab.proofs.working.hand_out.Goals as goal

pub returns-in_err-boxed-clause-finishes : goal.returns-in_err-boxed-clause-finishes
returns-in_err-boxed-clause-finishes c = none
