use Rattle.coll_arena.proofs.Walking.{slots_listed}
use Rattle.coll_arena.proofs.arena.Arena.list.Goals as goal

pub invariant_of-result : goal.invariant_of-result
invariant_of-result g c =
    record {
      in_range =
          slots_listed _ c.args.self.now c.self.inside.lent c.self.view_is c.self.invariant _ _ c.requires c.number.ensures _ c.nodes-nodes.ensures;
    }
