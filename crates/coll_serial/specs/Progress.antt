-- What progress does to an engine.
use Rattle.std.specs.Prelude.{◌≡◌, ◌+◌, ℕ}
use Rattle.coll_core.specs.Cores.{Parts, seen, setting}
use Rattle.coll_core.specs.Steps.{Finishings, left}

-- that many actions were done: some requests became Done, and nothing else changed that callers see
pub record Advances (p r : Parts) (actions : ℕ) : Type 0 where
  pub set : setting r ≡ setting p
  pub finishes : Finishings (setting p) (seen p) (seen r)
  pub lowers : left r + actions ≡ left p

-- some actions were done
abbrev pub Progresses : Parts → Parts → Type 0
Progresses p r = (actions : ℕ) × Advances p r actions
