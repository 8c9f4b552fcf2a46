use Rattle.std.proofs.Common.{◌<◌}
use Rattle.coll_lists.specs.Walks.{nodes_left}
use Rattle.coll_arena.specs.Slots.{count}
use Rattle.coll_arena.proofs.Walking.{All-step}
use Rattle.coll_arena.proofs.tickets.TicketsIterator.next.Goals as goal

pub invariant_of-self : goal.invariant_of-self
invariant_of-self g c = record {
  in_range = All-step (λ slot. slot < count c.args.self.now.arena.now) (nodes_left c.args.self.now.nodes)
      (nodes_left c.next.new.self) c.next.result c.next.ensures.steps c.args.self.now.in_range;
}
