-- The families of the binomial builders (MPI 4.1, 6.4, 6.9.1, 6.9.6)
use Rattle.std.specs.Prelude.{ℕ, ◌+◌, ◌≤◌, ◌==◌, cond, ◌++◌, ◌∷◌, [], unwrap_or}
use Rattle.coll_kinds.specs.declared.operation.Op.TheVariants.{Sum}
use Rattle.coll_kinds.specs.declared.signature.Signature.{Signature}
use Rattle.coll_kinds.specs.Lengths.{block_len}
use Rattle.coll_sched.specs.Common.{Family, IsNarrow, family_exchanges, Serves, front, nothing}
use Rattle.coll_trees.specs.Columns.{family_of}
use Rattle.coll_trees.specs.Depths.{depth}
use Rattle.coll_trees.specs.BinomialTreeBcast.{bcast_tree_rounds}
use Rattle.coll_trees.specs.BinomialTreeReduce.{reduce_tree_rounds, last_hop}

-- from the root to all
abbrev pub bcast_family : Signature → ℕ → Family
bcast_family sig n =
    family_of (block_len sig) (λ r. cond (r == sig.root) (front (block_len sig)) nothing) (λ r. front (block_len sig))
    (bcast_tree_rounds (block_len sig) n sig.root 0 (depth n))

-- from all to member 0, and from there to the root
abbrev pub reduce_family : Signature → ℕ → Family
reduce_family sig n =
    family_of (block_len sig + block_len sig) (λ r. front (block_len sig))
    (λ r. cond (r == sig.root) (front (block_len sig)) nothing)
    (reduce_tree_rounds (unwrap_or sig.op Sum) sig.ty (block_len sig) n 0 (depth n) ++ (last_hop (block_len sig) sig.root ∷ []))

-- reduce to member 0, and from there to all: so the operands keep the members' order
abbrev pub allreduce_family : Signature → ℕ → Family
allreduce_family sig n =
    family_of (block_len sig + block_len sig) (λ r. front (block_len sig)) (λ r. front (block_len sig))
    (reduce_tree_rounds (unwrap_or sig.op Sum) sig.ty (block_len sig) n 0 (depth n) ++ bcast_tree_rounds (block_len sig) n 0 0 (depth n))

-- the family serves the signature, narrowly, in at most that many exchanges
pub record IsNarrowFor (sig : Signature) (n : ℕ) (f : Family) (bound : ℕ) : Type 0 where
  pub serves : Serves sig n f
  pub narrow : IsNarrow n f
  pub few : family_exchanges n f ≤ bound
