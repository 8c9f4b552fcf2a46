-- The words of kinds, operations and types, as a job text and messages have them.
use Rattle.std.specs.Prelude.{ℕ, List, [], ◌∷◌, Option, codes}
use Rattle.std.specs.List.{find}
use Rattle.std.specs.Str.{bytes_eq}
use Rattle.coll_kinds.specs.declared.datatype.Datatype.{Datatype}
use Rattle.coll_kinds.specs.declared.datatype.Datatype.TheVariants.{I8, I16, I32, I64, U8, U16, U32, U64, Byte, Pair}
use Rattle.coll_kinds.specs.declared.operation.Op.{Op}
use Rattle.coll_kinds.specs.declared.operation.Op.TheVariants.{Max, Min, Sum, Prod, Land, Lor, Lxor, Band, Bor, Bxor, LastNz, MaxLoc, MinLoc}
use Rattle.coll_kinds.specs.declared.kind.Kind.{Kind}
use Rattle.coll_kinds.specs.declared.kind.Kind.TheVariants.{Barrier, Bcast, Gather, Scatter, Allgather, Allgatherv, Alltoall, Reduce, Allreduce}
use Rattle.coll_kinds.specs.declared.kind.Kind.TheVariants.{Rsblock, Scan, Exscan}

abbrev pub kind_word : Kind → List ℕ
kind_word Barrier = codes "barrier"
kind_word Bcast = codes "bcast"
kind_word Gather = codes "gather"
kind_word Scatter = codes "scatter"
kind_word Allgather = codes "allgather"
kind_word Allgatherv = codes "allgatherv"
kind_word Alltoall = codes "alltoall"
kind_word Reduce = codes "reduce"
kind_word Allreduce = codes "allreduce"
kind_word Rsblock = codes "rsblock"
kind_word Scan = codes "scan"
kind_word Exscan = codes "exscan"

abbrev pub operation_word : Op → List ℕ
operation_word Max = codes "max"
operation_word Min = codes "min"
operation_word Sum = codes "sum"
operation_word Prod = codes "prod"
operation_word Land = codes "land"
operation_word Lor = codes "lor"
operation_word Lxor = codes "lxor"
operation_word Band = codes "band"
operation_word Bor = codes "bor"
operation_word Bxor = codes "bxor"
operation_word LastNz = codes "lastnz"
operation_word MaxLoc = codes "maxloc"
operation_word MinLoc = codes "minloc"

abbrev pub datatype_word : Datatype → List ℕ
datatype_word I8 = codes "i8"
datatype_word I16 = codes "i16"
datatype_word I32 = codes "i32"
datatype_word I64 = codes "i64"
datatype_word U8 = codes "u8"
datatype_word U16 = codes "u16"
datatype_word U32 = codes "u32"
datatype_word U64 = codes "u64"
datatype_word Byte = codes "byte"
datatype_word Pair = codes "2int"

abbrev pub kinds : List Kind
kinds = Barrier ∷ Bcast ∷ Gather ∷ Scatter ∷ Allgather ∷ Allgatherv ∷ Alltoall ∷ Reduce ∷ Allreduce ∷ Rsblock ∷ Scan ∷ Exscan ∷ []

abbrev pub operations : List Op
operations = Max ∷ Min ∷ Sum ∷ Prod ∷ Land ∷ Lor ∷ Lxor ∷ Band ∷ Bor ∷ Bxor ∷ LastNz ∷ MaxLoc ∷ MinLoc ∷ []

abbrev pub datatypes : List Datatype
datatypes = I8 ∷ I16 ∷ I32 ∷ I64 ∷ U8 ∷ U16 ∷ U32 ∷ U64 ∷ Byte ∷ Pair ∷ []

-- what has that word
abbrev pub kind_of : List ℕ → Option Kind
kind_of word = find (λ kind. bytes_eq word (kind_word kind)) kinds

abbrev pub operation_of : List ℕ → Option Op
operation_of word = find (λ op. bytes_eq word (operation_word op)) operations

abbrev pub datatype_of : List ℕ → Option Datatype
datatype_of word = find (λ ty. bytes_eq word (datatype_word ty)) datatypes
