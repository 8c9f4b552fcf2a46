-- The signatures of MPI's calls.
use Rattle.std.specs.Prelude.{ℕ, List, Option, Some, None}
use Rattle.coll_kinds.specs.declared.datatype.Datatype.{Datatype}
use Rattle.coll_kinds.specs.declared.kind.Kind.{Kind}
use Rattle.coll_kinds.specs.declared.kind.Kind.TheVariants.{Allgatherv}
use Rattle.coll_kinds.specs.declared.kind.Mode.TheVariants.{Once, Persistent}
use Rattle.coll_kinds.specs.declared.operation.Op.{Op}
use Rattle.coll_kinds.specs.declared.signature.Signature.{Signature}

-- a nonblocking call with one count for all members
abbrev pub call : Kind → ℕ → Option Op → Datatype → ℕ → Signature
call kind root op ty count = record { kind = kind; mode = Once; root = root; op = op; ty = ty; count = count; each = None }

-- an allgatherv of members with these counts
abbrev pub counted_call : Datatype → List ℕ → Signature
counted_call ty each = record { kind = Allgatherv; mode = Once; root = 0; op = None; ty = ty; count = 0; each = Some each }

-- the persistent form of a call
abbrev pub persistent : Signature → Signature
persistent sig = record sig { mode = Persistent }
