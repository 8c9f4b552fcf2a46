-- What a walk over a list's tickets has left.
use Rattle.std.specs.Prelude.{List, map}
use Rattle.coll_kinds.specs.declared.ticket.Ticket.{Ticket}
use Rattle.coll_lists.specs.Walks.{nodes_left}
use Rattle.coll_arena.specs.Slots.{ticket_of}
use Rattle.coll_arena.specs.declared.tickets.Tickets.{Tickets}

abbrev pub tickets_left : {R : Type 0} → Tickets R → List Ticket
tickets_left walk = map (ticket_of walk.arena.now) (nodes_left walk.nodes)
