-- Walks along a list.
use Rattle.std.specs.Prelude.{ℕ, Bool, List, [], ◌∷◌, reverse, Option, Some, None, ◌==◌, if◌then◌else◌}
use Rattle.coll_lists.specs.Layouts.{Layout, list_of, sequence}
use Rattle.coll_lists.specs.declared.nodes.Nodes.{Nodes}

-- a sequence as it stands, or the other way round
abbrev pub in_order : Bool → List ℕ → List ℕ
in_order backwards nodes = if backwards then reverse nodes else nodes

-- a sequence from a node on
abbrev pub from_node : ℕ → List ℕ → List ℕ
from_node node [] = []
from_node node (a ∷ rest) = if a == node then a ∷ rest else from_node node rest

-- the nodes from one on to the end of its list, or back to its front
abbrev pub onward : Layout → Bool → Option ℕ → List ℕ
onward lists backwards None = []
onward lists backwards (Some node) = from_node node (in_order backwards (sequence lists (list_of lists node)))

-- what a walk has left
abbrev pub nodes_left : Nodes → List ℕ
nodes_left walk = onward walk.links.now walk.backwards walk.at
