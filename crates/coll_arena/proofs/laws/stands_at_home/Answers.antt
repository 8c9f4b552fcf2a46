use Rattle.coll_arena.proofs.Homes.{StandsAtHome-sound}
use Rattle.coll_arena.proofs.laws.stands_at_home.Goals as goal

pub returns : goal.returns
returns g c = λ slot list low. StandsAtHome-sound c.args.arena.now c.check.ensures slot list low
