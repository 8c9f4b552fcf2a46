use Rattle.coll_arena.proofs.Totals.{total-puts}
use Rattle.coll_arena.proofs.laws.changes_one_term.Goals as goal

pub returns : goal.returns
returns g c = total-puts
