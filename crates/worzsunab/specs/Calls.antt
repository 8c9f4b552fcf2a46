-- Collectives as C gives them.
use Rattle.std.specs.Prelude.{◌≡◌, ◌<◌, ◌≤◌, ◌-◌, ◌++◌, ℕ, List, length, replicate, Option, Some, None}
use Rattle.coll_kinds.specs.declared.datatype.Datatype.{Datatype}
use Rattle.coll_kinds.specs.declared.kind.Kind.{Kind}
use Rattle.coll_kinds.specs.declared.kind.Kind.TheVariants.{Barrier, Bcast, Gather, Scatter, Allgather, Allgatherv, Alltoall, Reduce, Allreduce}
use Rattle.coll_kinds.specs.declared.kind.Kind.TheVariants.{Rsblock, Scan, Exscan}
use Rattle.coll_kinds.specs.declared.kind.Mode.{Mode}
use Rattle.coll_kinds.specs.declared.operation.Op.{Op}
use Rattle.coll_kinds.specs.declared.operation.Op.TheVariants.{Max, Min, Sum, Prod, Land, Lor, Lxor, Band, Bor, Bxor, LastNz, MaxLoc, MinLoc}
use Rattle.coll_kinds.specs.declared.signature.Signature.{Signature}
use Rattle.coll_kinds.specs.Sameness as sameness
use Rattle.worzsunab.specs.declared.call.Call.{Call}

-- the numbers of include/worzsunab.h: WZ_BARRIER and so on
abbrev pub kind_number : Kind → ℕ
kind_number Barrier = 0
kind_number Bcast = 1
kind_number Gather = 2
kind_number Scatter = 3
kind_number Allgather = 4
kind_number Alltoall = 5
kind_number Reduce = 6
kind_number Allreduce = 7
kind_number Rsblock = 8
kind_number Scan = 9
kind_number Exscan = 10
kind_number Allgatherv = 11

-- WZ_NO_OPERATION for none, WZ_MAX and so on
abbrev pub operation_number : Option Op → ℕ
operation_number None = 0
operation_number (Some Max) = 1
operation_number (Some Min) = 2
operation_number (Some Sum) = 3
operation_number (Some Prod) = 4
operation_number (Some Land) = 5
operation_number (Some Lor) = 6
operation_number (Some Lxor) = 7
operation_number (Some Band) = 8
operation_number (Some Bor) = 9
operation_number (Some Bxor) = 10
operation_number (Some LastNz) = 11
operation_number (Some MaxLoc) = 12
operation_number (Some MinLoc) = 13

-- WZ_INT8 and so on
abbrev pub datatype_number : Datatype → ℕ
datatype_number ty = sameness.datatype_number ty

abbrev pub call_of : Kind → Option Op → Datatype → ℕ → ℕ → Call
call_of kind op ty root count =
    record { kind = kind_number kind; op = operation_number op; ty = datatype_number ty; root = root; count = count }

-- the numbers name a collective that has no counts, an operation or none, and a type
pub record AreNames (call : Call) : Type 0 where
  pub kind_is : call.kind < 11
  pub op_is : call.op < 14
  pub type_is : call.ty < 10

-- the number names a type, and there are no more counts than a communicator may have members
pub record AreCounts (ty : ℕ) (counts : List ℕ) : Type 0 where
  pub type_is : ty < 10
  pub few : length counts ≤ 64

-- the signature is the one that the call names
pub record IsCall (call : Call) (mode : Mode) (sig : Signature) : Type 0 where
  pub mode_is : sig.mode ≡ mode
  pub call_is : call_of sig.kind sig.op sig.ty sig.root sig.count ≡ call
  pub each_is : sig.each ≡ None

-- counts, and 0 after the last
abbrev pub padded : List ℕ → List ℕ
padded counts = counts ++ replicate (64 - length counts) 0

-- the signature is that of an allgatherv with these counts
pub record IsCounted (ty : ℕ) (counts : List ℕ) (mode : Mode) (sig : Signature) : Type 0 where
  pub mode_is : sig.mode ≡ mode
  pub call_is : call_of sig.kind sig.op sig.ty sig.root sig.count ≡ call_of Allgatherv None sig.ty 0 0
  pub type_is : datatype_number sig.ty ≡ ty
  pub each_is : sig.each ≡ Some (padded counts)
