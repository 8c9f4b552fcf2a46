-- What holds of every arena.
use Rattle.std.specs.Prelude.{◌≡◌, ℕ, ◌<◌, ◌≤◌, ◌^◌, Option, is_some, length, nat_lt}
use Rattle.coll_lists.specs.Layouts.{IsLawful}
use Rattle.coll_kinds.specs.Limits.{max_lent}
use Rattle.coll_arena.specs.ListNames.{list_count}
use Rattle.coll_arena.specs.Slots.{Slots, count, generation_of, home, lent, record_in, weight_of}

-- what holds of each slot, by its generation, its weight, its record and its list
pub record IsSoundSlot {R : Type 0} (wear generation weight : ℕ) (found : Option R) (list : ℕ) : Type 0 where
  -- a slot on Free can be given out again, one on Worn can't
  pub aged : generation ≤ wear
  pub free : list ≡ 0 → generation < wear
  pub worn : list ≡ 1 → generation ≡ wear
  -- exactly the live slots have a record, and only they weigh anything
  pub recorded : is_some found ≡ nat_lt 1 list
  pub weightless : list ≤ 1 → weight ≡ 0
  pub light : weight ≤ max_lent

pub record IsSound {R : Type 0} (a : Slots R) : Type 0 where
  pub weights_len : length a.weights ≡ count a
  pub records_len : length a.records ≡ count a
  -- four lists for all communicators, and three for each
  pub lists_is : length a.lists ≡ list_count a.comms
  pub lists_fit : length a.lists < 2 ^ 32
  pub count_fits : count a < 2 ^ 32
  pub wear_fits : a.wear < 2 ^ 32
  -- each slot lies on exactly one list
  pub lawful : IsLawful (count a) a.lists
  pub slots :
      (slot : ℕ) →
      slot < count a →
      IsSoundSlot a.wear (generation_of a slot) (weight_of a slot) (record_in a slot) (home a slot)

-- an arena with the number that it keeps: the sum of the weights of its live slots
pub record IsKept {R : Type 0} (a : Slots R) (sum : ℕ) : Type 0 where
  pub sound : IsSound a
  pub counted : sum ≡ lent a
