use Rattle.coll_arena.proofs.Calls.{rewrites}
use Rattle.coll_arena.proofs.arena.Arena.record_mut.Goals as goal

pub invariant_of-self-lent : goal.invariant_of-self-lent
invariant_of-self-lent g c w =
    rw (c.in-Some.is) ((rewrites _ c.args.self.now c.self.inside.lent c.self.view_is c.self.invariant c.args.slot w c.requires.slot_in c.requires.live).kept)
