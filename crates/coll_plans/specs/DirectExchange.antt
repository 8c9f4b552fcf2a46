-- One round of direct exchange: each member sends straight to those whom its bytes are for, keeps what is for itself,
-- and receives of those who have bytes for it
use Rattle.std.specs.Prelude.{ℕ, zero, suc, ◌+◌, ◌*◌, ◌==◌, Bool, true, false, cond, List, [], ◌∷◌, ◌++◌}
use Rattle.coll_sched.specs.declared.region.Region.{Region}
use Rattle.coll_sched.specs.declared.action.Action.{Action}
use Rattle.coll_sched.specs.declared.action.Action.TheVariants.{Send, Copy, Recv}
use Rattle.coll_trees.specs.Columns.{Column}
use Rattle.coll_plans.specs.declared.direct_blocks.Blocks.{Blocks}
use Rattle.coll_plans.specs.declared.direct_pattern.Pattern.{Pattern}
use Rattle.coll_plans.specs.declared.direct_pattern.Pattern.TheVariants.{ToAll, ToRoot, FromRoot}

-- the block of member p
abbrev pub place : Blocks → ℕ → Region
place blocks p = record { at = blocks.at + p * blocks.step; len = blocks.len }

-- member q has bytes for member r, which may be itself
abbrev pub carries : Pattern → ℕ → ℕ → Bool
carries ToAll q r = true
carries (ToRoot root) q r = r == root
carries (FromRoot root) q r = q == root

-- member q has bytes for another member r
abbrev pub crosses : Pattern → ℕ → ℕ → Bool
crosses pattern q r = cond (q == r) false (carries pattern q r)

-- the actions for those of the c members from k on that are chosen
abbrev pub chosen : (ℕ → Bool) → (ℕ → Action) → ℕ → ℕ → List Action
chosen pick act k zero = []
chosen pick act k (suc c) = cond (pick k) (act k ∷ chosen pick act (suc k) c) (chosen pick act (suc k) c)

-- what member r sends to those of the c members from k on, where it has `from p` for member p
abbrev pub sends : Pattern → (ℕ → Region) → ℕ → ℕ → ℕ → List Action
sends pattern from r k c = chosen (crosses pattern r) (λ p. Send p (from p)) k c

-- what it keeps
abbrev pub keeps : Pattern → (ℕ → Region) → (ℕ → Region) → ℕ → List Action
keeps pattern from into r = cond (carries pattern r r) (Copy (from r) (into r) ∷ []) []

-- what it receives of those of the c members from k on, where `into q` is for what member q has
abbrev pub recvs : Pattern → (ℕ → Region) → ℕ → ℕ → ℕ → List Action
recvs pattern into r k c = chosen (λ q. crosses pattern q r) (λ q. Recv q (into q)) k c

-- the round of n members: `from r` has the regions that member r gives, by receiver, `into r` those that it gets, by sender
abbrev pub exchange_by : Pattern → (ℕ → ℕ → Region) → (ℕ → ℕ → Region) → ℕ → Column
exchange_by pattern from into n r = sends pattern (from r) r 0 n ++ (keeps pattern (from r) (into r) r ++ recvs pattern (into r) r 0 n)

-- the blocks lie alike in the buffers of all members
abbrev pub alike : Blocks → ℕ → ℕ → Region
alike blocks r p = place blocks p

-- the round where the blocks do so
abbrev pub exchange : Pattern → Blocks → Blocks → ℕ → Column
exchange pattern from into n = exchange_by pattern (alike from) (alike into) n
