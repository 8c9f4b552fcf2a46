-- The barrier by dissemination (MPI 4.1, 6.3): in the step at distance s each member sends an empty message to the
-- member s further, counted round, and receives one of the member s before
use Rattle.std.specs.Prelude.{ℕ, zero, suc, ◌+◌, ◌-◌, ◌%◌, ◌^◌, List, [], ◌∷◌}
use Rattle.coll_kinds.specs.declared.signature.Signature.{Signature}
use Rattle.coll_sched.specs.declared.action.Action.TheVariants.{Send, Recv}
use Rattle.coll_sched.specs.Common.{Family, nothing}
use Rattle.coll_trees.specs.Columns.{Column, family_of}
use Rattle.coll_trees.specs.Depths.{depth}

-- the step at distance s
abbrev pub barrier_round : ℕ → ℕ → Column
barrier_round n s r = Send ((r + s) % n) nothing ∷ Recv ((r + (n - s)) % n) nothing ∷ []

-- c steps, the first at distance 2 ^ k
abbrev pub barrier_rounds : ℕ → ℕ → ℕ → List Column
barrier_rounds n k zero = []
barrier_rounds n k (suc c) = barrier_round n (2 ^ k) ∷ barrier_rounds n (suc k) c

-- the barrier of n members: all messages and buffers are empty
abbrev pub barrier_family : Signature → ℕ → Family
barrier_family sig n = family_of 0 (λ r. nothing) (λ r. nothing) (barrier_rounds n 0 (depth n))
