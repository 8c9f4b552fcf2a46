-- The link columns after the two halves of a move.
use Rattle.std.specs.Prelude.{ℕ, List, slice_index, slice_set}

-- the link columns after x was unlinked
abbrev pub next_unlinked : List ℕ → List ℕ → ℕ → List ℕ
next_unlinked next prev x = slice_set next (slice_index prev x) (slice_index next x)

abbrev pub prev_unlinked : List ℕ → List ℕ → ℕ → List ℕ
prev_unlinked next prev x = slice_set prev (slice_index next x) (slice_index prev x)

-- the link columns after x was linked in between two others
abbrev pub next_linked : List ℕ → ℕ → ℕ → ℕ → List ℕ
next_linked next l x r = slice_set (slice_set next l x) x r

abbrev pub prev_linked : List ℕ → ℕ → ℕ → ℕ → List ℕ
prev_linked prev l x r = slice_set (slice_set prev x l) r x
