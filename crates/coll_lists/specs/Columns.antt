-- How index columns show a layout. Indices below the number of nodes are nodes; after them comes one head for
-- each list, which stands before the list's first node and after its last one, so that every list is a ring.
use Rattle.std.specs.Prelude.{◌≡◌, ℕ, zero, suc, ◌+◌, ◌-◌, Option, Some, None, ◌^◌, ◌<◌, List, [], ◌∷◌, length, ◌==◌, ◌&&◌, nat_lt, if◌then◌else◌}
use Rattle.std.specs.Prelude.{slice_index, slice_set}
use Rattle.coll_lists.specs.Layouts.{Layout, sequence, times}

-- from one index to another, these nodes stand between them, each linked with the one before and the one after
abbrev pub Joined : (ℕ → ℕ) → (ℕ → ℕ) → ℕ → List ℕ → ℕ → Type 0
Joined next prev from [] to = (next from ≡ to) × (prev to ≡ from)
Joined next prev from (a ∷ rest) to = (next from ≡ a) × (prev a ≡ from) × Joined next prev a rest to

-- that many nodes in the order of the next links
abbrev pub walk : List ℕ → ℕ → ℕ → List ℕ
walk next from zero = []
walk next from (suc k) = slice_index next from ∷ walk next (slice_index next from) k

-- the walks from each head on
abbrev pub walks : List ℕ → ℕ → List ℕ → Layout
walks next head [] = []
walks next head (len ∷ rest) = walk next head len ∷ walks next (suc head) rest

-- an index as a node: none where it is a head's
abbrev pub node_at : ℕ → ℕ → Option ℕ
node_at nodes at = if nat_lt at nodes then Some at else None

-- the columns of a layout with every node on list 0, in rising order
abbrev pub opening_next : ℕ → ℕ → ℕ
opening_next nodes at = if nat_lt at nodes then at + 1 else (if at == nodes then 0 else at)

abbrev pub opening_prev : ℕ → ℕ → ℕ
opening_prev nodes at = if at == 0 then nodes else (if nat_lt nodes at then at else at - 1)

-- the lengths after x went to list l
abbrev pub len_entered : List ℕ → ℕ → ℕ → List ℕ
len_entered len from l =
    slice_set (slice_set len from (slice_index len from - 1)) l
    (slice_index (slice_set len from (slice_index len from - 1)) l + 1)

-- the columns show this layout
pub record Shows (next prev list len : List ℕ) (lists : Layout) : Type 0 where
  pub next_len : length next ≡ length list + length len
  pub prev_len : length prev ≡ length list + length len
  pub fits : length list + length len < 2 ^ 32
  pub lists_len : length lists ≡ length len
  pub within : (node : ℕ) → node < length list → slice_index list node < length len
  pub next_in : (i : ℕ) → i < length next → slice_index next i < length next
  pub prev_in : (i : ℕ) → i < length prev → slice_index prev i < length prev
  pub joined :
      (l : ℕ) →
      l < length len →
      Joined (slice_index next) (slice_index prev) (length list + l) (sequence lists l) (length list + l)
  pub placed :
      (node l : ℕ) →
      l < length len →
      times node (sequence lists l) ≡ (if nat_lt node (length list) && (slice_index list node == l) then 1 else 0)
  pub counted : (l : ℕ) → l < length len → slice_index len l ≡ length (sequence lists l)
