-- A moment of an engine: what lay under its lock while a port's call had it.
use Rattle.std.specs.Prelude.{◌≤◌, ℕ, List, length}
use Rattle.coll_machine.specs.Common.{Entry, Setting, State, LegalTrace}

-- the entries that the engine had accepted are legal and lead to the state, and the port had made no more of them than there were
pub record IsMoment (g : Setting) (made : ℕ) (entries : List Entry) (s : State) : Type 0 where
  pub legal : LegalTrace g entries s
  pub has_made : made ≤ length entries
