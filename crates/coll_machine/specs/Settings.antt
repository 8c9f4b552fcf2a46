-- What stays the same while an engine runs: who is in which communicator, and the limits.
use Rattle.std.specs.Prelude.{ℕ, List, [], length, slice_get, slice_index, unwrap_or}
use Rattle.coll_kinds.specs.Groups.{IsGroup}

pub record Setting : Type 0 where
  pub ranks : ℕ  -- the ranks are the numbers below it
  pub groups : List (List ℕ)  -- the ranks of each communicator, in the order of their member numbers
  pub slots : ℕ  -- the most live requests at one time
  pub places : ℕ  -- the most posts and initialisations of one member on one communicator
  pub wear : ℕ  -- the most requests that one slot is given to, one after the other
  pub starts : ℕ  -- the most starts of one request
  pub trace : ℕ  -- the most entries of the trace

-- the members of a communicator, of all groups; one that isn't there has none
abbrev pub group_in : List (List ℕ) → ℕ → List ℕ
group_in groups comm = unwrap_or (slice_get groups comm) []

abbrev pub group : Setting → ℕ → List ℕ
group g comm = group_in g.groups comm

abbrev pub size : Setting → ℕ → ℕ
size g comm = length (group g comm)

-- the rank that is this member
abbrev pub rank_of : Setting → ℕ → ℕ → ℕ
rank_of g comm member = slice_index (group g comm) member

-- each communicator's members are ranks, and none stands twice
abbrev pub AreGroups : Setting → Type 0
AreGroups g = (comm : ℕ) → IsGroup g.ranks (group g comm)
