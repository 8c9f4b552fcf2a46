-- The group of a communicator: the ranks that are its members, in the order of their member numbers (MPI 4.1, 7.2.1).
use Rattle.std.specs.Prelude.{◌≡◌, ℕ, ◌<◌, ◌≤◌, ◌==◌, Bool, List, length, Option, Some, slice_index}
use Rattle.std.specs.List.{list_any, position}

-- the number of a rank among the members
abbrev pub member_of : ℕ → List ℕ → Option ℕ
member_of rank group = position (λ r. r == rank) group

-- members of a communicator of n ranks: each is one of these, and none stands twice
pub record IsGroup (n : ℕ) (group : List ℕ) : Type 0 where
  pub few : length group ≤ 64
  pub below : (m : ℕ) → m < length group → slice_index group m < n
  pub found : (m : ℕ) → m < length group → member_of (slice_index group m) group ≡ Some m

-- the number is one of these
abbrev pub is_among : ℕ → List ℕ → Bool
is_among number numbers = list_any (λ other. other == number) numbers
