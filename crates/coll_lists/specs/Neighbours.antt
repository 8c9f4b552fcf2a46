-- The nodes beside a node in its sequence, and the ends of a sequence.
use Rattle.std.specs.Prelude.{ℕ, ◌-◌, List, [], ◌∷◌, Option, Some, None, length, ◌==◌, if◌then◌else◌, slice_get}

-- the node after this one
abbrev pub after_in : ℕ → List ℕ → Option ℕ
after_in node [] = None
after_in node (a ∷ []) = None
after_in node (a ∷ b ∷ rest) = if a == node then Some b else after_in node (b ∷ rest)

-- the node before this one
abbrev pub before_in : ℕ → List ℕ → Option ℕ
before_in node [] = None
before_in node (a ∷ []) = None
before_in node (a ∷ b ∷ rest) = if b == node then Some a else before_in node (b ∷ rest)

-- the first node and the last one
abbrev pub first_in : List ℕ → Option ℕ
first_in nodes = slice_get nodes 0

abbrev pub last_in : List ℕ → Option ℕ
last_in nodes = slice_get nodes (length nodes - 1)
