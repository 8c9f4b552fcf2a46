-- Look-ups by slot, as functions, before and after a change.
use Rattle.std.specs.Prelude.{◌≡◌, ◌≢◌, ℕ, ◌<◌, length, Option, Some, true}
use Rattle.coll_kinds.specs.Puts.{put}
use Rattle.coll_kinds.specs.declared.ticket.Ticket.{Ticket}
use Rattle.coll_lists.specs.Layouts.{sequence}
use Rattle.coll_lists.specs.Moves.{taken_out}
use Rattle.coll_lists.specs.Neighbours.{first_in}
use Rattle.coll_arena.specs.Slots.{Slots, count, generation_of, home, names, record_in, weight_of}

-- b is a with another generation, weight, record and list of one slot; a list that was not its home and is not now
-- stays as it is
pub record PutsSlot
    {R : Type 0}
    (a b : Slots R)
    (slot generation weight : ℕ)
    (found : Option R)
    (list : ℕ)
    : Type 0 where
  pub count_is : count b ≡ count a
  pub comms_is : b.comms ≡ a.comms
  pub wear_is : b.wear ≡ a.wear
  pub generations : generation_of b ≡ put (generation_of a) slot generation
  pub weights : weight_of b ≡ put (weight_of a) slot weight
  pub records : record_in b ≡ put (record_in a) slot found
  pub homes : home b ≡ put (home a) slot list
  pub lists_is : length b.lists ≡ length a.lists
  pub others :
      (other : ℕ) →
      other ≢ home a slot →
      other ≢ list →
      sequence b.lists other ≡ sequence a.lists other
  pub from : (other : ℕ) → other ≢ list → sequence b.lists other ≡ taken_out slot (sequence a.lists other)

-- the ticket of a list's first slot: it is live, and that list is its home
pub record IsFirst {R : Type 0} (a : Slots R) (list : ℕ) (ticket : Ticket) : Type 0 where
  pub first : first_in (sequence a.lists list) ≡ Some ticket.slot
  pub low : ticket.slot < count a
  pub live : names a ticket ≡ true
  pub home_is : home a ticket.slot ≡ list
