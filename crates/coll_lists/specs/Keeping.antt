-- What a move keeps.
use Rattle.std.specs.Prelude.{◌≡◌, ◌≢◌, ℕ, ◌<◌}
use Rattle.coll_lists.specs.Layouts.{IsLawful, Layout, list_of}
use Rattle.coll_lists.specs.Moves.{without}

-- every list is as it was with that node taken out, save for the node's new place; so the order of all other
-- nodes stays on every list
pub record KeepsTheRest (node list : ℕ) (old new : Layout) : Type 0 where
  pub rest : without node new ≡ without node old
  pub place : list_of new node ≡ list
  pub others : (other : ℕ) → other ≢ node → list_of new other ≡ list_of old other
  pub lawful : (nodes : ℕ) → node < nodes → IsLawful nodes old → IsLawful nodes new
