use Rattle.coll_arena.proofs.Lookups.{PutsSlot-rewritten}
use Rattle.coll_arena.proofs.laws.writing_puts.Goals as goal

pub returns : goal.returns
returns g c = λ slot written low. PutsSlot-rewritten c.args.arena.now c.check.ensures slot low written
