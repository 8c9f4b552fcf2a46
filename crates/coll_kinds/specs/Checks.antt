-- Which rule a signature breaks for n members: the first, in the order root, operation, count, size.
use Rattle.std.specs.Prelude.{◌≡◌, ◌<◌, ◌≤◌, ℕ, zero, suc, ◌==◌, Bool, true, false, not, ◌&&◌, ◌||◌, nat_lt, nat_le, List, length, slice_index}
use Rattle.std.specs.Prelude.{Option, Some, None, is_none, if◌then◌else◌}
use Rattle.coll_kinds.specs.declared.datatype.Datatype.{Datatype}
use Rattle.coll_kinds.specs.declared.operation.Op.{Op}
use Rattle.coll_kinds.specs.declared.operation.Op.TheVariants.{Max, Min, Sum, Prod, Land, Lor, Lxor, Band, Bor, Bxor, LastNz, MaxLoc, MinLoc}
use Rattle.coll_kinds.specs.declared.kind.Kind.{Kind}
use Rattle.coll_kinds.specs.declared.kind.Kind.TheVariants.{Barrier, Bcast, Gather, Scatter, Allgather, Allgatherv, Alltoall, Reduce, Allreduce}
use Rattle.coll_kinds.specs.declared.kind.Kind.TheVariants.{Rsblock, Scan, Exscan}
use Rattle.coll_kinds.specs.declared.signature.Signature.{Signature}
use Rattle.coll_kinds.specs.declared.refusal.SignatureFault.{SignatureFault}
use Rattle.coll_kinds.specs.declared.refusal.SignatureFault.TheVariants.{Root, Operation, Count, Size}
use Rattle.coll_kinds.specs.Elements.{is_integer, is_pair}
use Rattle.coll_kinds.specs.Limits.{max_count, max_len, max_lent}
use Rattle.coll_kinds.specs.Lengths.{given_len, got_len, lent}

abbrev pub has_root : Kind → Bool
has_root Barrier = false
has_root Bcast = true
has_root Gather = true
has_root Scatter = true
has_root Allgather = false
has_root Allgatherv = false
has_root Alltoall = false
has_root Reduce = true
has_root Allreduce = false
has_root Rsblock = false
has_root Scan = false
has_root Exscan = false

abbrev pub has_operation : Kind → Bool
has_operation Barrier = false
has_operation Bcast = false
has_operation Gather = false
has_operation Scatter = false
has_operation Allgather = false
has_operation Allgatherv = false
has_operation Alltoall = false
has_operation Reduce = true
has_operation Allreduce = true
has_operation Rsblock = true
has_operation Scan = true
has_operation Exscan = true

abbrev pub is_barrier : Kind → Bool
is_barrier Barrier = true
is_barrier Bcast = false
is_barrier Gather = false
is_barrier Scatter = false
is_barrier Allgather = false
is_barrier Allgatherv = false
is_barrier Alltoall = false
is_barrier Reduce = false
is_barrier Allreduce = false
is_barrier Rsblock = false
is_barrier Scan = false
is_barrier Exscan = false

-- each member's elements are counted
abbrev pub has_counts : Kind → Bool
has_counts Barrier = false
has_counts Bcast = false
has_counts Gather = false
has_counts Scatter = false
has_counts Allgather = false
has_counts Allgatherv = true
has_counts Alltoall = false
has_counts Reduce = false
has_counts Allreduce = false
has_counts Rsblock = false
has_counts Scan = false
has_counts Exscan = false

-- the operation may be used on the type (MPI 4.1, 6.9.2 and 6.9.4): pairs take the two that look for a place, all others
-- those on bits, and integers all but these two
abbrev pub allowed : Op → Datatype → Bool
allowed Max ty = is_integer ty
allowed Min ty = is_integer ty
allowed Sum ty = is_integer ty
allowed Prod ty = is_integer ty
allowed Land ty = is_integer ty
allowed Lor ty = is_integer ty
allowed Lxor ty = is_integer ty
allowed Band ty = not (is_pair ty)
allowed Bor ty = not (is_pair ty)
allowed Bxor ty = not (is_pair ty)
allowed LastNz ty = is_integer ty
allowed MaxLoc ty = is_pair ty
allowed MinLoc ty = is_pair ty

-- an operation is there, and may be used on the type
abbrev pub reduces : Option Op → Datatype → Bool
reduces None ty = false
reduces (Some op) ty = allowed op ty

-- the root is a member; 0 where the kind has none
abbrev pub root_fits : Signature → ℕ → Bool
root_fits sig n = if has_root sig.kind then nat_lt sig.root n else sig.root == 0

abbrev pub operation_fits : Signature → Bool
operation_fits sig = if has_operation sig.kind then reduces sig.op sig.ty else is_none sig.op

-- a barrier has no elements, and where each member's are counted there is no count of all
abbrev pub one_count_fits : Signature → Bool
one_count_fits sig = if is_barrier sig.kind || has_counts sig.kind then sig.count == 0 else nat_le sig.count max_count

-- the counts below k: each of the n members has one, and after them stands 0
abbrev pub counts_below_fit : List ℕ → ℕ → ℕ → Bool
counts_below_fit counts n zero = true
counts_below_fit counts n (suc i) =
    counts_below_fit counts n i
    && (if nat_lt i n then nat_le (slice_index counts i) max_count else slice_index counts i == 0)

abbrev pub counts_fit : Option (List ℕ) → Kind → ℕ → Bool
counts_fit None kind n = not (has_counts kind)
counts_fit (Some counts) kind n = has_counts kind && counts_below_fit counts n (length counts)

abbrev pub count_fits : Signature → ℕ → Bool
count_fits sig n = one_count_fits sig && counts_fit sig.each sig.kind n

-- what member r of n gives and gets is at most 16 MiB each
abbrev pub size_fits : Signature → ℕ → ℕ → Bool
size_fits sig n r = nat_le (given_len sig n r) max_len && nat_le (got_len sig n r) max_len

-- that of each member below k
abbrev pub sizes_fit : Signature → ℕ → ℕ → Bool
sizes_fit sig n zero = true
sizes_fit sig n (suc r) = sizes_fit sig n r && size_fits sig n r

-- the first rule that the signature breaks, if any
abbrev pub broken : Signature → ℕ → Option SignatureFault
broken sig n =
    if root_fits sig n then
    (if operation_fits sig then
    (if count_fits sig n then (if sizes_fit sig n n then None else Some Size) else Some Count)
    else Some Operation)
    else Some Root

-- what a member gives to a collective that breaks no rule, and gets from it, is within the limits
abbrev pub AreLengthsSmall : Type 0
AreLengthsSmall =
    (sig : Signature) (n r : ℕ) → broken sig n ≡ None → r < n
    → (given_len sig n r ≤ max_len) × (got_len sig n r ≤ max_len) × (lent sig n r ≤ max_lent)
