-- A change of one slot of an arena, whatever calls make it: its look-ups by slot, but not the order of its lists.
use Rattle.std.specs.Prelude.{◌≡◌, ℕ, Option}
use Rattle.coll_kinds.specs.Puts.{put}
use Rattle.coll_arena.specs.Slots.{Slots, count, generation_of, home, record_in, weight_of}

-- b is a with another generation, weight, record and list of one slot
pub record OneSlot {R : Type 0} (a b : Slots R) (slot generation weight : ℕ) (found : Option R)
    (list : ℕ) : Type 0 where
  pub count_is : count b ≡ count a
  pub comms_is : b.comms ≡ a.comms
  pub wear_is : b.wear ≡ a.wear
  pub generations : generation_of b ≡ put (generation_of a) slot generation
  pub weights : weight_of b ≡ put (weight_of a) slot weight
  pub records : record_in b ≡ put (record_in a) slot found
  pub homes : home b ≡ put (home a) slot list
