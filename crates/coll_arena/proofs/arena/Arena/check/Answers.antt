use Rattle.coll_arena.proofs.Calls.{seen}
use Rattle.coll_arena.proofs.arena.Arena.check.Goals as goal

pub returns : goal.returns
returns g c = seen _ c.args.self.now c.self.inside.lent c.self.view_is c.self.invariant
