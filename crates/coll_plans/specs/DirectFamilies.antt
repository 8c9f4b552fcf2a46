-- The families of the direct collectives (MPI 4.1, 6.5 to 6.8, 6.10.1): one exchange, in which each sends
-- straight to whoever needs its bytes
use Rattle.std.specs.Prelude.{ℕ, zero, suc, ◌+◌, ◌-◌, ◌*◌, ◌≤◌, ◌==◌, cond, List, [], ◌∷◌, unwrap_or}
use Rattle.coll_kinds.specs.declared.operation.Op.{Op}
use Rattle.coll_kinds.specs.declared.operation.Op.TheVariants.{Sum}
use Rattle.coll_kinds.specs.declared.datatype.Datatype.{Datatype}
use Rattle.coll_kinds.specs.declared.signature.Signature.{Signature}
use Rattle.coll_kinds.specs.Lengths.{block_len, row_len, total}
use Rattle.coll_sched.specs.declared.region.Region.{Region}
use Rattle.coll_sched.specs.declared.action.Action.TheVariants.{Combine}
use Rattle.coll_sched.specs.Common.{Family, family_exchanges, Serves, front, nothing}
use Rattle.coll_trees.specs.Columns.{Column, family_with}
use Rattle.coll_plans.specs.declared.direct_blocks.Blocks.{Blocks}
use Rattle.coll_plans.specs.declared.direct_pattern.Pattern.TheVariants.{ToAll, ToRoot, FromRoot}
use Rattle.coll_plans.specs.DirectExchange.{place, exchange, exchange_by}

-- the family serves the signature in at most that many exchanges
pub record IsDirectFor (sig : Signature) (n : ℕ) (f : Family) (bound : ℕ) : Type 0 where
  pub serves : Serves sig n f
  pub few : family_exchanges n f ≤ bound

-- one block of b bytes at the front, the same for all members
abbrev pub one_block : ℕ → Blocks
one_block b = record { at = 0; step = 0; len = b }

-- a block of b bytes for each member, one after the other from byte `at` on
abbrev pub blocks_from : ℕ → ℕ → Blocks
blocks_from at b = record { at = at; step = b; len = b }

-- n blocks of b bytes from byte `at` on
abbrev pub all_blocks : ℕ → ℕ → ℕ → Region
all_blocks at n b = record { at = at; len = n * b }

-- each sends its block of b bytes to the root, which has the blocks of all after its own
abbrev pub gather_by : ℕ → ℕ → ℕ → Family
gather_by root n b =
    family_with (λ r. cond (r == root) (b + n * b) b) (λ r. front b) (λ r. cond (r == root) (all_blocks b n b) nothing)
    (exchange (ToRoot root) (one_block b) (blocks_from b b) n ∷ [])

-- the root sends each its block, which all have before whatever they give
abbrev pub scatter_by : ℕ → ℕ → ℕ → Family
scatter_by root n b =
    family_with (λ r. cond (r == root) (b + n * b) b) (λ r. cond (r == root) (all_blocks b n b) nothing) (λ r. front b)
    (exchange (FromRoot root) (blocks_from b b) (one_block b) n ∷ [])

-- each sends each its block, and has the n blocks that it gets after the n that it gives
abbrev pub alltoall_by : ℕ → ℕ → Family
alltoall_by n b =
    family_with (λ r. n * b + n * b) (λ r. all_blocks 0 n b) (λ r. all_blocks (n * b) n b)
    (exchange ToAll (blocks_from 0 b) (blocks_from (n * b) b) n ∷ [])

-- every member combines block k with what the block after it has become
abbrev pub combine_at : Op → Datatype → Blocks → ℕ → Column
combine_at op ty blocks k r = Combine op ty (place blocks k) (place blocks (suc k)) (place blocks k) ∷ []

-- from block k - 1 down to block 0
abbrev pub combines_below : Op → Datatype → Blocks → ℕ → List Column
combines_below op ty blocks zero = []
combines_below op ty blocks (suc k) = combine_at op ty blocks k ∷ combines_below op ty blocks k

-- the exchange of alltoall, and then the blocks that each got are combined in member order, from the last on
abbrev pub rsblock_by : Op → Datatype → ℕ → ℕ → Family
rsblock_by op ty n b = family_with (λ r. n * b + n * b) (λ r. all_blocks 0 n b) (λ r. record { at = n * b; len = b })
    (exchange ToAll (blocks_from 0 b) (blocks_from (n * b) b) n ∷ combines_below op ty (blocks_from (n * b) b) (n - 1))

-- member i's row, where those of all members lie packed at the front, in member order
abbrev pub row_at : (ℕ → ℕ) → ℕ → Region
row_at rows i = record { at = total rows i; len = rows i }

-- what member r gives: its own row, after those of all n
abbrev pub own_row : (ℕ → ℕ) → ℕ → ℕ → Region
own_row rows n r = record { at = total rows n; len = rows r }

-- member i's row, of rows i bytes, goes to all
abbrev pub row_exchange : (ℕ → ℕ) → ℕ → Column
row_exchange rows n = exchange_by ToAll (λ r p. own_row rows n r) (λ r q. row_at rows q) n

-- each sends its row to all, and has the n rows, in member order, before its own
abbrev pub allgatherv_by : (ℕ → ℕ) → ℕ → Family
allgatherv_by rows n = family_with (λ r. total rows n + rows r) (λ r. own_row rows n r) (λ r. front (total rows n)) (row_exchange rows n ∷ [])

abbrev pub gather_family : Signature → ℕ → Family
gather_family sig n = gather_by sig.root n (block_len sig)

abbrev pub scatter_family : Signature → ℕ → Family
scatter_family sig n = scatter_by sig.root n (block_len sig)

abbrev pub alltoall_family : Signature → ℕ → Family
alltoall_family sig n = alltoall_by n (block_len sig)

abbrev pub allgatherv_family : Signature → ℕ → Family
allgatherv_family sig n = allgatherv_by (row_len sig) n

abbrev pub rsblock_family : Signature → ℕ → Family
rsblock_family sig n = rsblock_by (unwrap_or sig.op Sum) sig.ty n (block_len sig)
