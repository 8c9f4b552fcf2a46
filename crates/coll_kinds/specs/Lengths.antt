-- What a member gives to a collective and gets from it, in bytes (MPI 4.1, 6.4 to 6.11).
use Rattle.std.specs.Prelude.{ℕ, zero, suc, ◌+◌, ◌*◌, ◌==◌, List, slice_index, Option, Some, None, if◌then◌else◌}
use Rattle.coll_kinds.specs.declared.kind.Kind.{Kind}
use Rattle.coll_kinds.specs.declared.kind.Kind.TheVariants.{Barrier, Bcast, Gather, Scatter, Allgather, Allgatherv, Alltoall, Reduce, Allreduce}
use Rattle.coll_kinds.specs.declared.kind.Kind.TheVariants.{Rsblock, Scan, Exscan}
use Rattle.coll_kinds.specs.declared.signature.Signature.{Signature}
use Rattle.coll_kinds.specs.Elements.{width}

-- the bytes of one block
abbrev pub block_len : Signature → ℕ
block_len sig = sig.count * width sig.ty

-- the elements of member i's row, where each member's are counted
abbrev pub count_at : Option (List ℕ) → ℕ → ℕ
count_at None i = 0
count_at (Some counts) i = slice_index counts i

-- the bytes of member i's row of an allgatherv
abbrev pub row_len : Signature → ℕ → ℕ
row_len sig i = count_at sig.each i * width sig.ty

-- the bytes of k rows
abbrev pub total : (ℕ → ℕ) → ℕ → ℕ
total rows zero = 0
total rows (suc k) = total rows k + rows k

-- what member r of n gives, where a block has b bytes, and member i's row, where they differ, rows i
abbrev pub given_by : Kind → ℕ → ℕ → ℕ → ℕ → (ℕ → ℕ) → ℕ
given_by Barrier root n r b rows = 0
given_by Bcast root n r b rows = if r == root then b else 0
given_by Gather root n r b rows = b
given_by Scatter root n r b rows = if r == root then n * b else 0
given_by Allgather root n r b rows = b
given_by Allgatherv root n r b rows = rows r
given_by Alltoall root n r b rows = n * b
given_by Reduce root n r b rows = b
given_by Allreduce root n r b rows = b
given_by Rsblock root n r b rows = n * b
given_by Scan root n r b rows = b
given_by Exscan root n r b rows = b

-- what member r of n gets
abbrev pub got_by : Kind → ℕ → ℕ → ℕ → ℕ → (ℕ → ℕ) → ℕ
got_by Barrier root n r b rows = 0
got_by Bcast root n r b rows = b
got_by Gather root n r b rows = if r == root then n * b else 0
got_by Scatter root n r b rows = b
got_by Allgather root n r b rows = n * b
got_by Allgatherv root n r b rows = total rows n
got_by Alltoall root n r b rows = n * b
got_by Reduce root n r b rows = if r == root then b else 0
got_by Allreduce root n r b rows = b
got_by Rsblock root n r b rows = b
got_by Scan root n r b rows = b
got_by Exscan root n r b rows = if r == 0 then 0 else b

abbrev pub given_len : Signature → ℕ → ℕ → ℕ
given_len sig n r = given_by sig.kind sig.root n r (block_len sig) (row_len sig)

abbrev pub got_len : Signature → ℕ → ℕ → ℕ
got_len sig n r = got_by sig.kind sig.root n r (block_len sig) (row_len sig)

-- the bytes that an active request lends to the engine
abbrev pub lent : Signature → ℕ → ℕ → ℕ
lent sig n r = given_len sig n r + got_len sig n r
