-- An arena after each of its calls. What an equation leaves out stays. `moved_back` takes a slot from its list and puts it at
-- the back of another, or of the same; all other slots stay in their order on their lists.
use Rattle.std.specs.Prelude.{ℕ, ◌+◌, ◌-◌, [], ◌∷◌, Some, None, ◌==◌, replicate, if◌then◌else◌, slice_set}
use Rattle.std.specs.List.{range_with_len}
use Rattle.coll_lists.specs.Moves.{moved_back, moved_front}
use Rattle.coll_arena.specs.ListNames.{list_count}
use Rattle.coll_arena.specs.Slots.{Slots, generation_of}

module _ {R : Type 0} where
  -- every slot on Free, in rising order, and never used
  abbrev pub opened : ℕ → ℕ → ℕ → Slots R
  opened count comms wear = record {
    generations = replicate count 0;
    weights = replicate count 0;
    records = replicate count None;
    lists = range_with_len 0 count ∷ replicate (list_count comms - 1) [];
    comms = comms;
    wear = wear;
  }

  -- a slot is given out with its next generation, at the back of a list
  abbrev pub taken : Slots R → ℕ → R → ℕ → ℕ → Slots R
  taken a slot rec weight list = record {
    generations = slice_set a.generations slot (generation_of a slot + 1);
    weights = slice_set a.weights slot weight;
    records = slice_set a.records slot (Some rec);
    lists = moved_back slot list a.lists;
    comms = a.comms;
    wear = a.wear;
  }

  -- another record in a slot
  abbrev pub rewritten : Slots R → ℕ → R → Slots R
  rewritten a slot rec = record a { records = slice_set a.records slot (Some rec) }

  -- another weight of a slot
  abbrev pub reweighed : Slots R → ℕ → ℕ → Slots R
  reweighed a slot weight = record a { weights = slice_set a.weights slot weight }

  -- a slot at the back of a list, and at the front of one
  abbrev pub shifted : Slots R → ℕ → ℕ → Slots R
  shifted a slot list = record a { lists = moved_back slot list a.lists }

  abbrev pub shifted_front : Slots R → ℕ → ℕ → Slots R
  shifted_front a slot list = record a { lists = moved_front slot list a.lists }

  -- another record in a slot, which goes to the back of a list
  abbrev pub replaced : Slots R → ℕ → R → ℕ → Slots R
  replaced a slot rec list = record a {
    records = slice_set a.records slot (Some rec);
    lists = moved_back slot list a.lists;
  }

  -- a slot without its record, at the back of Free, or of Worn where its generation is the last
  abbrev pub retired : Slots R → ℕ → Slots R
  retired a slot = record {
    generations = a.generations;
    weights = slice_set a.weights slot 0;
    records = slice_set a.records slot None;
    lists = moved_back slot (if generation_of a slot == a.wear then 1 else 0) a.lists;
    comms = a.comms;
    wear = a.wear;
  }
