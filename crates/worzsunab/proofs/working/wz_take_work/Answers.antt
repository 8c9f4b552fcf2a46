use Rattle.worzsunab.proofs.Answering.{unchanged}
use Rattle.worzsunab.proofs.working.wz_take_work.Goals as goal

pub returns-then-is_full-clause-finishes : goal.returns-then-is_full-clause-finishes
returns-then-is_full-clause-finishes c = unchanged c.args.handle.now.held.engine
