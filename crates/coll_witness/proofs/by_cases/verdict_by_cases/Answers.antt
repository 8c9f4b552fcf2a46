use Rattle.coll_witness.proofs.Saying.{verdict-of-script}
use Rattle.coll_witness.proofs.by_cases.verdict_by_cases.Goals as goal

pub returns-in-Ok : goal.returns-in-Ok
returns-in-Ok c = verdict-of-script c.args.text.now c.in-Ok.script c.verdict_of_script.result c.in-Ok.ensures.read c.verdict_of_script.ensures
