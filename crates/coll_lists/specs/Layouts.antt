-- Layouts: which nodes stand on which list, and in which order.
use Rattle.std.specs.Prelude.{◌≡◌, ℕ, suc, ◌+◌, List, [], ◌∷◌, length, ◌==◌, nat_lt, if◌then◌else◌, slice_index_or}
use Rattle.std.specs.List.{concat}

-- a sequence of nodes for each list
abbrev pub Layout : Type 0
Layout = List (List ℕ)

-- the nodes of a list, from its first to its last; none past the last list
abbrev pub sequence : Layout → ℕ → List ℕ
sequence lists list = slice_index_or lists list []

-- how often a node stands in a sequence
abbrev pub times : ℕ → List ℕ → ℕ
times node [] = 0
times node (a ∷ rest) = (if a == node then 1 else 0) + times node rest

-- each node below the count stands exactly once over all sequences, and no other stands on any
abbrev pub IsLawful : ℕ → Layout → Type 0
IsLawful nodes lists = (node : ℕ) → times node (concat lists) ≡ (if nat_lt node nodes then 1 else 0)

-- how many nodes stand on the lists together
abbrev pub size : Layout → ℕ
size lists = length (concat lists)

-- the first list that a node stands on, or the number of lists where it stands on none
abbrev pub list_of : Layout → ℕ → ℕ
list_of [] node = 0
list_of (nodes ∷ rest) node = if nat_lt 0 (times node nodes) then 0 else suc (list_of rest node)
