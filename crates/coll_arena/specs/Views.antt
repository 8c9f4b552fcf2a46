-- What the fields of an arena show.
use Rattle.std.specs.Prelude.{ℕ, List, Option}
use Rattle.coll_lists.specs.Layouts.{Layout}
use Rattle.coll_arena.specs.Slots.{Slots}

-- the columns as they stand
abbrev pub view_of : {R : Type 0} → List ℕ → List ℕ → List (Option R) → Layout → ℕ → ℕ → Slots R
view_of generations weights records links comms wear = record {
  generations = generations;
  weights = weights;
  records = records;
  lists = links;
  comms = comms;
  wear = wear;
}
