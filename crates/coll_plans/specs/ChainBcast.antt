-- A long bcast along a pipelined chain (MPI 4.1, 6.4): the block goes from the root to the next member and so on round, in
-- segments, and while a member passes on one segment it gets the next.
use Rattle.std.specs.Prelude.{ℕ, zero, suc, ◌+◌, ◌-◌, ◌*◌, ◌/◌, ◌==◌, ◌&&◌, min, nat_le, nat_lt, Bool, cond, List, [], ◌∷◌}
use Rattle.coll_kinds.specs.declared.signature.Signature.{Signature}
use Rattle.coll_kinds.specs.Lengths.{block_len}
use Rattle.coll_sched.specs.declared.region.Region.{Region}
use Rattle.coll_sched.specs.declared.action.Action.{Action}
use Rattle.coll_sched.specs.declared.action.Action.TheVariants.{Send, Recv}
use Rattle.coll_sched.specs.Common.{Family, front, nothing}
use Rattle.coll_trees.specs.Columns.{Column, family_of}
use Rattle.coll_trees.specs.BinomialTreeBcast.{from_root, member_at}

-- the bytes of a segment; the last one may be shorter
abbrev pub segment_len : ℕ
segment_len = 16384

-- how many segments b bytes have
abbrev pub segment_count : ℕ → ℕ
segment_count b = (b + 16383) / segment_len

-- segment i of b bytes
abbrev pub segment : ℕ → ℕ → Region
segment b i = record { at = i * segment_len; len = min segment_len (b - i * segment_len) }

-- in round j the member with number v, counted from the root on, passes on segment j - v
abbrev pub is_passing : ℕ → ℕ → ℕ → ℕ → Bool
is_passing n s j v = nat_lt (v + 1) n && (nat_le v j && nat_lt j (v + s))

-- what it receives: the segment that the member before passes on
abbrev pub receipt_of : ℕ → ℕ → ℕ → ℕ → ℕ → List Action
receipt_of b n root j v =
    cond (nat_lt 0 v && is_passing n (segment_count b) j (v - 1))
    (Recv (member_at n root (v - 1)) (segment b (j - (v - 1))) ∷ [])
    []

-- the round of the member with number v
abbrev pub relay_of : ℕ → ℕ → ℕ → ℕ → ℕ → List Action
relay_of b n root j v =
    cond (is_passing n (segment_count b) j v)
    (Send (member_at n root (v + 1)) (segment b (j - v)) ∷ receipt_of b n root j v)
    (receipt_of b n root j v)

abbrev pub relay : ℕ → ℕ → ℕ → ℕ → Column
relay b n root j r = relay_of b n root j (from_root n root r)

-- c rounds, the first being k
abbrev pub relaying : ℕ → ℕ → ℕ → ℕ → ℕ → List Column
relaying b n root k zero = []
relaying b n root k (suc c) = relay b n root k ∷ relaying b n root (suc k) c

-- that many rounds bring the last segment to the last of n members
abbrev pub relay_count : ℕ → ℕ → ℕ
relay_count n b = n - 2 + segment_count b

abbrev pub chain_family : Signature → ℕ → Family
chain_family sig n =
    family_of (block_len sig) (λ r. cond (r == sig.root) (front (block_len sig)) nothing) (λ r. front (block_len sig))
    (relaying (block_len sig) n sig.root 0 (relay_count n (block_len sig)))

-- a bcast goes along the chain from that many bytes on
abbrev pub long_len : ℕ
long_len = 65536

abbrev pub is_long : ℕ → ℕ → Bool
is_long n b = nat_lt 1 n && nat_le long_len b
