-- How the posting lists of one communicator are kept: each is the front of one list of signatures.
use Rattle.std.specs.Prelude.{◌≡◌, ℕ, ◌<◌, ◌≤◌, List, length, map, take, slice_index}
use Rattle.coll_kinds.specs.declared.signature.Signature.{Signature}
use Rattle.coll_queues.specs.Lists.{Lists}

-- the signatures of the places so far, and how many memory stands for
pub record Places : Type 0 where
  pub items : List Signature
  pub room : ℕ

abbrev pub lists_of : List ℕ → List Signature → List ℕ → ℕ → Lists
lists_of group signatures lengths room =
    record { group = group; lists = map (λ n. take n signatures) lengths; room = room }

pub record AreFronts (group : List ℕ) (signatures : List Signature) (lengths : List ℕ) : Type 0 where
  pub few : length group ≤ 64
  -- each member has a list, which is no longer than the signatures
  pub all : length lengths ≡ length group
  pub within : (member : ℕ) → slice_index lengths member ≤ length signatures
  -- each signature stands in some member's list
  pub posted : (place : ℕ) → place < length signatures → (member : ℕ) × (place < slice_index lengths member)
