use Rattle.std.proofs.Common.{ap, reverse, ◌∙◌, map}
use Rattle.coll_lists.specs.Layouts.{sequence}
use Rattle.coll_arena.specs.ListNames.{number_of}
use Rattle.coll_arena.specs.Slots.{ticket_of}
use Rattle.coll_arena.proofs.Walking.{map-reverse, sequence_seen, slots_listed_back}
use Rattle.coll_arena.proofs.arena.Arena.list_back.Goals as goal

pub returns : goal.returns
returns g c =
    ap (map (ticket_of c.args.self.now))
    (c.nodes_back-nodes.ensures
    ∙ ap reverse (sequence_seen _ c.args.self.now c.self.inside.lent c.self.view_is c.self.invariant _ _ c.requires c.number.ensures))
    ∙ map-reverse (ticket_of c.args.self.now) (sequence c.args.self.now.lists (number_of c.args.list))

pub invariant_of-result : goal.invariant_of-result
invariant_of-result g c =
    record {
      in_range =
          slots_listed_back _ c.args.self.now c.self.inside.lent c.self.view_is c.self.invariant _ _ c.requires c.number.ensures _ c.nodes_back-nodes.ensures;
    }
