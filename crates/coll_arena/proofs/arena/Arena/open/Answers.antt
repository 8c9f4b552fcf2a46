use Rattle.std.proofs.Common.{arith, rules}
use Rattle.coll_arena.proofs.Opening.{IsKept-made}
use Rattle.coll_arena.proofs.arena.Arena.open.Goals as goal

pub invariant_of-result : goal.invariant_of-result
invariant_of-result g c =
    IsKept-made _ _ _ _ c.args.slots c.args.comms c.args.wear (search rules) (search rules) c.in_ok-records.ensures
    c.in_ok-links.ensures.made c.requires.worn (omega arith) c.requires.room
