-- The value of a collective at a member, as one function of what all members gave, in member order (MPI 4.1, 6.4 to
-- 6.11). It knows no rounds and no messages.
use Rattle.std.specs.Prelude.{ℕ, ◌+◌, ◌*◌, ◌==◌, List, [], take, drop, slice_get, unwrap_or, if◌then◌else◌}
use Rattle.std.specs.List.{flat_map}
use Rattle.coll_kinds.specs.declared.datatype.Datatype.{Datatype}
use Rattle.coll_kinds.specs.declared.operation.Op.{Op}
use Rattle.coll_kinds.specs.declared.operation.Op.TheVariants.{Sum}
use Rattle.coll_kinds.specs.declared.kind.Kind.{Kind}
use Rattle.coll_kinds.specs.declared.kind.Kind.TheVariants.{Barrier, Bcast, Gather, Scatter, Allgather, Allgatherv, Alltoall, Reduce, Allreduce}
use Rattle.coll_kinds.specs.declared.kind.Kind.TheVariants.{Rsblock, Scan, Exscan}
use Rattle.coll_kinds.specs.declared.signature.Signature.{Signature}
use Rattle.coll_kinds.specs.Lengths.{block_len}
use Rattle.coll_ops.specs.Combinations.{combination}

-- what member i gave
abbrev pub row_of : List (List ℕ) → ℕ → List ℕ
row_of given i = unwrap_or (slice_get given i) []

-- len bytes of a row, from byte at on
abbrev pub part : ℕ → ℕ → List ℕ → List ℕ
part at len row = take len (drop at row)

-- block r of a row of blocks, where a block has b bytes
abbrev pub block : ℕ → ℕ → List ℕ → List ℕ
block b r row = part (r * b) b row

-- the rows one after the other
abbrev pub all_rows : List (List ℕ) → List ℕ
all_rows given = flat_map (λ row. row) given

-- the value at member r, where a block has b bytes
abbrev pub value_by : Kind → Op → Datatype → ℕ → ℕ → List (List ℕ) → ℕ → List ℕ
value_by Barrier op ty b root given r = []
value_by Bcast op ty b root given r = row_of given root
value_by Gather op ty b root given r = if r == root then all_rows given else []
value_by Scatter op ty b root given r = block b r (row_of given root)
value_by Allgather op ty b root given r = all_rows given
value_by Allgatherv op ty b root given r = all_rows given
value_by Alltoall op ty b root given r = flat_map (block b r) given
value_by Reduce op ty b root given r = if r == root then combination op ty given else []
value_by Allreduce op ty b root given r = combination op ty given
value_by Rsblock op ty b root given r = block b r (combination op ty given)
value_by Scan op ty b root given r = combination op ty (take (r + 1) given)
value_by Exscan op ty b root given r = combination op ty (take r given)

-- the value at member r; a kind without an operation looks at none
abbrev pub value : Signature → List (List ℕ) → ℕ → List ℕ
value sig given r = value_by sig.kind (unwrap_or sig.op Sum) sig.ty (block_len sig) sig.root given r
