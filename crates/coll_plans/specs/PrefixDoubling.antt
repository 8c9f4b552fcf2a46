-- Scan and exscan by prefix doubling (MPI 4.1, 6.11): before the step at distance s each member holds the
-- combination of the s rows that end with its own, or of all rows up to its own where there are fewer. It sends that
-- to the member s above, and combines what it receives of the member s below in front of its own.
use Rattle.std.specs.Prelude.{ℕ, zero, suc, ◌+◌, ◌-◌, ◌^◌, ◌==◌, nat_lt, nat_le, Bool, cond, List, [], ◌∷◌, unwrap_or}
use Rattle.coll_kinds.specs.declared.operation.Op.{Op}
use Rattle.coll_kinds.specs.declared.operation.Op.TheVariants.{Sum}
use Rattle.coll_kinds.specs.declared.datatype.Datatype.{Datatype}
use Rattle.coll_kinds.specs.declared.signature.Signature.{Signature}
use Rattle.coll_kinds.specs.Lengths.{block_len}
use Rattle.coll_sched.specs.declared.region.Region.{Region}
use Rattle.coll_sched.specs.declared.action.Action.{Action}
use Rattle.coll_sched.specs.declared.action.Action.TheVariants.{Send, Copy, Combine, Recv}
use Rattle.coll_sched.specs.Common.{Family, front, behind, nothing}
use Rattle.coll_trees.specs.Columns.{Column, family_of}
use Rattle.coll_trees.specs.Depths.{depth}

-- the third block of a buffer: in an exscan, the combination of the rows before the member's own
abbrev pub third : ℕ → Region
third b = record { at = b + b; len = b }

-- what member r receives in the step at distance s
abbrev pub receipt : ℕ → ℕ → ℕ → List Action
receipt b s r = cond (nat_le s r) (Recv (r - s) (behind b) ∷ []) []

-- the first round of the step: blocks move up
abbrev pub shift : ℕ → ℕ → ℕ → Column
shift b n s r = cond (nat_lt (r + s) n) (Send (r + s) (front b) ∷ receipt b s r) (receipt b s r)

-- the second round of a scan's step: what came joins in front
abbrev pub join : Op → Datatype → ℕ → ℕ → Column
join op ty b s r = cond (nat_le s r) (Combine op ty (behind b) (front b) (front b) ∷ []) []

-- what came joins in front of the rows before the member's own; at distance 1 there are none yet
abbrev pub collect : Op → Datatype → ℕ → ℕ → Action
collect op ty b s = cond (s == 1) (Copy (behind b) (third b)) (Combine op ty (behind b) (third b) (third b))

-- the second round of an exscan's step
abbrev pub join_both : Op → Datatype → ℕ → ℕ → Column
join_both op ty b s r = cond (nat_le s r) (collect op ty b s ∷ Combine op ty (behind b) (front b) (front b) ∷ []) []

-- the second round of a step: of an exscan's or of a scan's
abbrev pub joins : Bool → Op → Datatype → ℕ → ℕ → Column
joins exclusive op ty b = cond exclusive (join_both op ty b) (join op ty b)

-- c steps of two rounds each, the first at distance 2 ^ k
abbrev pub doubling : ℕ → ℕ → (ℕ → Column) → ℕ → ℕ → List Column
doubling b n second k zero = []
doubling b n second k (suc c) = shift b n (2 ^ k) ∷ second (2 ^ k) ∷ doubling b n second (suc k) c

-- of blocks of b bytes: in a scan a member ends with the rows up to its own
abbrev pub scan_by : Op → Datatype → ℕ → ℕ → Family
scan_by op ty n b = family_of (b + b) (λ r. front b) (λ r. front b) (doubling b n (join op ty b) 0 (depth n))

-- in an exscan with the rows before its own, of which member 0 has none
abbrev pub exscan_by : Op → Datatype → ℕ → ℕ → Family
exscan_by op ty n b =
    family_of (b + b + b) (λ r. front b) (λ r. cond (r == 0) nothing (third b))
    (doubling b n (join_both op ty b) 0 (depth n))

abbrev pub scan_family : Signature → ℕ → Family
scan_family sig n = scan_by (unwrap_or sig.op Sum) sig.ty n (block_len sig)

abbrev pub exscan_family : Signature → ℕ → Family
exscan_family sig n = exscan_by (unwrap_or sig.op Sum) sig.ty n (block_len sig)
