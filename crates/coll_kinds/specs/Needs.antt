-- Whose contribution a member's outcome rests on: a set of members (MPI 4.1, 6.12).
use Rattle.std.specs.Prelude.{ℕ, ◌==◌, Bool, true, ◌&&◌, ◌||◌, nat_lt, nat_le}
use Rattle.coll_kinds.specs.declared.kind.Kind.{Kind}
use Rattle.coll_kinds.specs.declared.kind.Kind.TheVariants.{Barrier, Bcast, Gather, Scatter, Allgather, Allgatherv, Alltoall, Reduce, Allreduce}
use Rattle.coll_kinds.specs.declared.kind.Kind.TheVariants.{Rsblock, Scan, Exscan}
use Rattle.coll_kinds.specs.declared.signature.Signature.{Signature}

-- r's outcome rests on what p gives
abbrev pub needs_of : Kind → ℕ → ℕ → ℕ → Bool
needs_of Barrier root r p = true
needs_of Bcast root r p = p == root
needs_of Gather root r p = (r == root) || (p == r)
needs_of Scatter root r p = p == root
needs_of Allgather root r p = true
needs_of Allgatherv root r p = true
needs_of Alltoall root r p = true
needs_of Reduce root r p = (r == root) || (p == r)
needs_of Allreduce root r p = true
needs_of Rsblock root r p = true
needs_of Scan root r p = nat_le p r
needs_of Exscan root r p = nat_lt p r

-- p is one of the n members, and r's outcome rests on what p gives
abbrev pub needs : Signature → ℕ → ℕ → ℕ → Bool
needs sig n r p = nat_lt p n && needs_of sig.kind sig.root r p
