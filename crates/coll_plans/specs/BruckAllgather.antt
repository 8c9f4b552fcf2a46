-- Allgather by Bruck's exchange (MPI 4.1, 6.7; J. Bruck et al.), with members counted round: before the step at distance s
-- a member holds the blocks of the s members from itself on. It sends them to the member s before, as many as that one
-- lacks, and receives those of the member s further after its own. In the end it copies all into member order.
use Rattle.std.specs.Prelude.{ℕ, zero, suc, ◌+◌, ◌-◌, ◌*◌, ◌%◌, ◌^◌, min, List, [], ◌∷◌}
use Rattle.coll_kinds.specs.declared.signature.Signature.{Signature}
use Rattle.coll_kinds.specs.Lengths.{block_len}
use Rattle.coll_sched.specs.declared.region.Region.{Region}
use Rattle.coll_sched.specs.declared.action.Action.TheVariants.{Send, Copy, Recv}
use Rattle.coll_sched.specs.Common.{Family, front}
use Rattle.coll_trees.specs.Columns.{Column, family_of}
use Rattle.coll_trees.specs.Depths.{depth}

-- c blocks of b bytes, from block k of a buffer on
abbrev pub blocks_at : ℕ → ℕ → ℕ → Region
blocks_at b k c = record { at = k * b; len = c * b }

-- how many blocks go to each member in the step at distance s
abbrev pub block_count : ℕ → ℕ → ℕ
block_count n s = min s (n - s)

-- the step at distance s
abbrev pub bruck_step : ℕ → ℕ → ℕ → Column
bruck_step b n s r =
    Send ((r + (n - s)) % n) (blocks_at b 0 (block_count n s)) ∷ Recv ((r + s) % n) (blocks_at b s (block_count n s)) ∷ []

-- member r, which holds the n blocks from its own on, copies them into member order after
abbrev pub rotation : ℕ → ℕ → Column
rotation b n r = Copy (blocks_at b 0 (n - r)) (blocks_at b (n + r) (n - r)) ∷ Copy (blocks_at b (n - r) r) (blocks_at b n r) ∷ []

-- c steps, the first at distance 2 ^ k, and then the copies
abbrev pub bruck_rounds : ℕ → ℕ → ℕ → ℕ → List Column
bruck_rounds b n k zero = rotation b n ∷ []
bruck_rounds b n k (suc c) = bruck_step b n (2 ^ k) ∷ bruck_rounds b n (suc k) c

-- of n blocks of b bytes
abbrev pub allgather_by : ℕ → ℕ → Family
allgather_by n b = family_of (n * b + n * b) (λ r. front b) (λ r. blocks_at b n n) (bruck_rounds b n 0 (depth n))

abbrev pub allgather_family : Signature → ℕ → Family
allgather_family sig n = allgather_by n (block_len sig)
