-- Lists that read alike forwards and backwards, said of the columns that the readers read.
use Rattle.std.specs.Prelude.{◌≡◌, ℕ, ◌+◌, ◌<◌, List, [], ◌∷◌, length, reverse, Option, Some, None, slice_index}
use Rattle.coll_lists.specs.Columns.{node_at}
use Rattle.coll_lists.specs.Layouts.{Layout, list_of, sequence}
use Rattle.coll_lists.specs.declared.columns.Columns.{Columns}

-- going on by `step` from `start` gives these nodes and ends with None
abbrev pub Follows : (ℕ → Option ℕ) → Option ℕ → List ℕ → Type 0
Follows step start [] = start ≡ None
Follows step start (a ∷ rest) = (start ≡ Some a) × Follows step (step a) rest

-- what a reader answers: the node that a link leads to, or None where it leads to a list's head; a node's link leads to
-- the node after it or before it, and a head's to its list's first node or its last
abbrev pub reads : ℕ → List ℕ → ℕ → Option ℕ
reads nodes links at = node_at nodes (slice_index links at)

-- how many nodes there are
abbrev pub nodes_of : Columns → ℕ
nodes_of c = length c.list.items

-- following the next links from a list's first node gives its sequence, following the previous links from its last
-- node gives the reverse, and the length and the lists of the nodes agree with the sequence
pub record IsWellLinked (c : Columns) (lists : Layout) (list : ℕ) : Type 0 where
  pub forwards :
      Follows (reads (nodes_of c) c.next.items) (reads (nodes_of c) c.next.items (nodes_of c + list))
      (sequence lists list)
  pub backwards :
      Follows (reads (nodes_of c) c.prev.items) (reads (nodes_of c) c.prev.items (nodes_of c + list))
      (reverse (sequence lists list))
  pub counted : slice_index c.len.items list ≡ length (sequence lists list)
  pub listed : (node : ℕ) → node < nodes_of c → slice_index c.list.items node ≡ list_of lists node
