use Rattle.std.proofs.Common.{◌<◌, arith, length}
use Rattle.coll_arena.proofs.Calls.{node_low}
use Rattle.coll_arena.proofs.arena.Arena.ticket_at.Goals as goal

pub list_of-requires : goal.list_of-requires
list_of-requires g c =
    let low : c.args.slot < length c.self.inside.generations.items = omega (arith, c.if-slot-len.true, c.len.ensures, c.self.inside.generations.ok) in
    node_low _ c.args.self.now c.self.inside.lent c.self.view_is c.self.invariant c.args.slot low
