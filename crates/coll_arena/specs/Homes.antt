-- The list that a slot stands on.
use Rattle.std.specs.Prelude.{◌≡◌, ℕ, ◌<◌, ◌≤◌, ◌↔◌, true}
use Rattle.coll_lists.specs.Layouts.{sequence, times}
use Rattle.coll_arena.specs.Slots.{Slots, count, home, names, ticket_of}

-- a slot stands in a list's sequence exactly where that list is its home, and then once; from list 2 on it is live
pub record StandsAtHome {R : Type 0} (a : Slots R) (slot list : ℕ) : Type 0 where
  pub at_home : (0 < times slot (sequence a.lists list)) ↔ ((slot < count a) × (home a slot ≡ list))
  pub once : times slot (sequence a.lists list) ≤ 1
  pub live : 2 ≤ list → 0 < times slot (sequence a.lists list) → names a (ticket_of a slot) ≡ true
