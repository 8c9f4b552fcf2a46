-- What a move makes of a layout.
use Rattle.std.specs.Prelude.{ℕ, List, [], ◌∷◌, ◌++◌, map, not, ◌==◌, slice_set}
use Rattle.std.specs.List.{filter}
use Rattle.coll_lists.specs.Layouts.{Layout, sequence}

-- a sequence with that node taken out
abbrev pub taken_out : ℕ → List ℕ → List ℕ
taken_out node nodes = filter (λ other. not (other == node)) nodes

-- every list with that node taken out
abbrev pub without : ℕ → Layout → Layout
without node lists = map (taken_out node) lists

-- the node taken out and put after the last node of a list
abbrev pub moved_back : ℕ → ℕ → Layout → Layout
moved_back node list lists = slice_set (without node lists) list (sequence (without node lists) list ++ node ∷ [])

-- the node taken out and put before the first node of a list
abbrev pub moved_front : ℕ → ℕ → Layout → Layout
moved_front node list lists = slice_set (without node lists) list (node ∷ sequence (without node lists) list)
