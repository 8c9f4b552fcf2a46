-- The one family that a signature and a number of members fix, and what is known of it
use Rattle.std.specs.Prelude.{◌≡◌, ℕ, ◌+◌, ◌<◌, ◌≤◌, Bool, true, false, cond, None}
use Rattle.coll_kinds.specs.declared.kind.Kind.{Kind}
use Rattle.coll_kinds.specs.declared.kind.Kind.TheVariants.{Barrier, Bcast, Gather, Scatter, Allgather, Allgatherv, Alltoall, Reduce, Allreduce}
use Rattle.coll_kinds.specs.declared.kind.Kind.TheVariants.{Rsblock, Scan, Exscan}
use Rattle.coll_kinds.specs.declared.signature.Signature.{Signature}
use Rattle.coll_kinds.specs.Common.{broken, block_len}
use Rattle.coll_sched.specs.Common.{Parts, Family, IsNarrow, family_exchanges, remaining, Serves}
use Rattle.coll_trees.specs.Depths.{depth, direct_bound}
use Rattle.coll_trees.specs.Trees.{bcast_family, reduce_family}
use Rattle.coll_plans.specs.DisseminationBarrier.{barrier_family}
use Rattle.coll_plans.specs.PrefixDoubling.{scan_family, exscan_family}
use Rattle.coll_plans.specs.RecursiveDoubling.{allreduce_family, most_trades}
use Rattle.coll_plans.specs.ChainBcast.{chain_family, is_long, relay_count}
use Rattle.coll_plans.specs.BruckAllgather.{allgather_family}
use Rattle.coll_plans.specs.DirectFamilies.{gather_family, scatter_family, allgatherv_family, alltoall_family, rsblock_family}

-- by kind; a bcast also by its length
abbrev pub family_by : Kind → Signature → ℕ → Family
family_by Barrier sig n = barrier_family sig n
family_by Bcast sig n = cond (is_long n (block_len sig)) (chain_family sig n) (bcast_family sig n)
family_by Gather sig n = gather_family sig n
family_by Scatter sig n = scatter_family sig n
family_by Allgather sig n = allgather_family sig n
family_by Allgatherv sig n = allgatherv_family sig n
family_by Alltoall sig n = alltoall_family sig n
family_by Reduce sig n = reduce_family sig n
family_by Allreduce sig n = allreduce_family sig n
family_by Rsblock sig n = rsblock_family sig n
family_by Scan sig n = scan_family sig n
family_by Exscan sig n = exscan_family sig n

-- the family of a collective among n members; a crate above needs nothing of it but IsPlanned
unfoldable pub family : Signature → ℕ → Family
family sig n = family_by sig.kind sig n

-- the kinds whose members send straight to whoever needs their bytes
abbrev pub is_direct : Kind → Bool
is_direct Barrier = false
is_direct Bcast = false
is_direct Gather = true
is_direct Scatter = true
is_direct Allgather = false
is_direct Allgatherv = true
is_direct Alltoall = true
is_direct Reduce = false
is_direct Allreduce = false
is_direct Rsblock = true
is_direct Scan = false
is_direct Exscan = false

-- the most rounds in which some member sends or receives; a single member never does
abbrev pub most_exchanges_by : Kind → Signature → ℕ → ℕ
most_exchanges_by Barrier sig n = depth n
most_exchanges_by Bcast sig n = cond (is_long n (block_len sig)) (relay_count n (block_len sig)) (depth n)
most_exchanges_by Gather sig n = direct_bound n
most_exchanges_by Scatter sig n = direct_bound n
most_exchanges_by Allgather sig n = depth n
most_exchanges_by Allgatherv sig n = direct_bound n
most_exchanges_by Alltoall sig n = direct_bound n
most_exchanges_by Reduce sig n = depth n + direct_bound n
most_exchanges_by Allreduce sig n = most_trades n
most_exchanges_by Rsblock sig n = direct_bound n
most_exchanges_by Scan sig n = depth n
most_exchanges_by Exscan sig n = depth n

abbrev pub most_exchanges : Signature → ℕ → ℕ
most_exchanges sig n = most_exchanges_by sig.kind sig n

-- the most actions of one member
abbrev pub most_actions : ℕ
most_actions = 256

-- the family serves the signature within its bounds, and is narrow unless it is direct
pub record IsPlanned (sig : Signature) (n : ℕ) (f : Family) : Type 0 where
  pub serves : Serves sig n f
  pub few : family_exchanges n f ≤ most_exchanges sig n
  pub short : (r : ℕ) → remaining (f r) 0 0 ≤ most_actions
  pub narrow : is_direct sig.kind ≡ false → IsNarrow n f

-- so it is with every checked signature
abbrev pub FamiliesServe : Type 0
FamiliesServe = (sig : Signature) (n : ℕ) → broken sig n ≡ None → 0 < n → n ≤ 64 → IsPlanned sig n (family sig n)

-- what a plan is of
pub record Planned : Type 0 where
  pub sig : Signature
  pub n : ℕ
  pub member : ℕ

-- a checked signature, a member of at most 64, and that member's schedule in the family
pub record IsPlan (sig : Signature) (n member : ℕ) (schedule : Parts) : Type 0 where
  pub checked : broken sig n ≡ None
  pub low : member < n
  pub few : n ≤ 64
  pub schedule_is : schedule ≡ family sig n member
