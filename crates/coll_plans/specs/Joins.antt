-- What the combinations of an allreduce are of: the rows of neighbouring members.
use Rattle.std.specs.Prelude.{◌≡◌, ◌<◌, ℕ, List, length, slice_get, Some}
use Rattle.coll_kinds.specs.declared.datatype.Datatype.{Datatype}
use Rattle.coll_kinds.specs.declared.operation.Op.{Op}
use Rattle.coll_kinds.specs.declared.signature.Signature.{Signature}
use Rattle.coll_kinds.specs.Common.{AreBytes, given_len}
use Rattle.coll_ops.specs.Combinations.{combined, combination}
use Rattle.coll_sched.specs.declared.action.Action.TheVariants.{Combine}
use Rattle.coll_sched.specs.declared.region.Region.{Region}
use Rattle.coll_sched.specs.Common.{actions_at, lock_step, read_of}
use Rattle.coll_sched.specs.Served.{listing}
use Rattle.coll_plans.specs.Plans.{family}

-- each member's row has its length, and is bytes
abbrev pub AreRows : Signature → ℕ → (ℕ → List ℕ) → Type 0
AreRows sig n given = (m : ℕ) → m < n → (length (given m) ≡ given_len sig n m) × AreBytes (given m)

-- in lock-step each Combine of member r in round j results in the combination of the rows of count members from first on,
-- whatever the rows are
abbrev pub JoinsRows : Signature → ℕ → ℕ → ℕ → ℕ → ℕ → Type 0
JoinsRows sig n r j first count =
    (given : ℕ → List ℕ) (index : ℕ) (op : Op) (ty : Datatype) (left right into : Region)
    → AreRows sig n given
    → slice_get (actions_at (family sig n) j r) index ≡ Some (Combine op ty left right into)
    → combined op ty (read_of (lock_step (family sig n) given j r) left) (read_of (lock_step (family sig n) given j r) right)
    ≡ combination op ty (listing given first count)

-- the member combines nothing in that round
abbrev pub CombinesNothing : Signature → ℕ → ℕ → ℕ → Type 0
CombinesNothing sig n r j =
    (index : ℕ) (op : Op) (ty : Datatype) (left right into : Region)
    → slice_get (actions_at (family sig n) j r) index ≡ Some (Combine op ty left right into)
    → ⊥
