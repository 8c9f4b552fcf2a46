-- Worked rows of joins, computed. Member m of an allreduce among five gives a row with a one at place m and zeros elsewhere, so
-- the logical or of rows shows whose they are. The members are a square, whose first corner stands for members 0 and 1.
use Rattle.std.specs.Prelude.{◌≡◌, ◌==◌, ℕ, List, [], ◌∷◌, Some, None, cond, map, slice_get, refl}
use Rattle.coll_kinds.specs.declared.datatype.Datatype.TheVariants.{I8}
use Rattle.coll_kinds.specs.declared.kind.Kind.TheVariants.{Allreduce}
use Rattle.coll_kinds.specs.declared.kind.Mode.TheVariants.{Once}
use Rattle.coll_kinds.specs.declared.operation.Op.TheVariants.{Lor}
use Rattle.coll_kinds.specs.declared.signature.Signature.{Signature}
use Rattle.coll_ops.specs.Combinations.{combined, combination}
use Rattle.coll_sched.specs.declared.action.Action.TheVariants.{Combine}
use Rattle.coll_sched.specs.Common.{actions_at, behind, front, lock_step, read_of}
use Rattle.coll_sched.specs.Served.{listing}
use Rattle.coll_plans.specs.Joins.{JoinsRows}
use Rattle.coll_plans.specs.Plans.{family}
use Rattle.coll_plans.specs.RecursiveDoublingHypercube.{dimension}

abbrev pub ored : Signature
ored = record { kind = Allreduce; mode = Once; root = 0; op = Some Lor; ty = I8; count = 5; each = None }

abbrev pub given : ℕ → List ℕ
given m = map (λ k. cond (m == k) 1 0) (0 ∷ 1 ∷ 2 ∷ 3 ∷ 4 ∷ [])

-- what member r combines in round j: what came with its own as the left operand, and as the right one
abbrev or_behind : ℕ → ℕ → List ℕ
or_behind j r = combined Lor I8 (read_of (lock_step (family ored 5) given j r) (front 5)) (read_of (lock_step (family ored 5) given j r) (behind 5))

abbrev or_before : ℕ → ℕ → List ℕ
or_before j r = combined Lor I8 (read_of (lock_step (family ored 5) given j r) (behind 5)) (read_of (lock_step (family ored 5) given j r) (front 5))

-- member 0 joins its row with member 1's
pair_joins_two : or_behind 1 0 ≡ combination Lor I8 (listing given 0 2)
unfolding family dimension
pair_joins_two = refl

-- then members 0 and 2, the lowest of the first two corners, join the rows of members 0 to 2, and members 3 and 4 their own
second_combines : slice_get (actions_at (family ored 5) 3 2) 0 ≡ Some (Combine Lor I8 (behind 5) (front 5) (front 5))
unfolding family dimension
second_combines = refl

first_joins_three : or_behind 3 0 ≡ combination Lor I8 (listing given 0 3)
unfolding family dimension
first_joins_three = refl

second_joins_three : or_before 3 2 ≡ combination Lor I8 (listing given 0 3)
unfolding family dimension
second_joins_three = refl

last_joins_two : or_before 3 4 ≡ combination Lor I8 (listing given 3 2)
unfolding family dimension
last_joins_two = refl

-- and at last all rows
last_joins_all : or_before 5 4 ≡ combination Lor I8 (listing given 0 5)
unfolding family dimension
last_joins_all = refl

-- what member 2 joins aren't the rows of members 0 and 1 alone
second_has_three : or_before 3 2 ≡ 1 ∷ 1 ∷ 1 ∷ 0 ∷ 0 ∷ []
unfolding family dimension
second_has_three = refl

two_are_fewer : combination Lor I8 (listing given 0 2) ≡ 1 ∷ 1 ∷ 0 ∷ 0 ∷ 0 ∷ []
two_are_fewer = refl

abbrev pub OthersAreNotJoined : Type 0
OthersAreNotJoined = JoinsRows ored 5 2 3 0 2 → ⊥
