use Rattle.coll_script.proofs.Answering.{HasMeaning-script}
use Rattle.coll_faults.proofs.faults.Faults.of.Goals as goal

pub returns-in-Ok-clause-none : goal.returns-in-Ok-clause-none
returns-in-Ok-clause-none c = HasMeaning-script _ _ c.in-Ok.ensures.read
