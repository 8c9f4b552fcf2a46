use Rattle.coll_deadlock.proofs.Calling.{calls_carry_out}
use Rattle.coll_deadlock.proofs.engine.calls_carry_out.Goals as goal

pub returns : goal.returns
returns c = calls_carry_out c.args.core.now c.goes_on_by_calls.ensures
