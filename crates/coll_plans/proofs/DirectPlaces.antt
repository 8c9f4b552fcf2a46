-- where the blocks of members lie
use Rattle.std.proofs.Common.{◌≡◌, ℕ, suc, ◌+◌, ◌*◌, ◌<◌, ◌≤◌, ◌≢◌, ◌⊎◌, inl, inr, arith, suc-mul}
use Rattle.std.proofs.lemmas.Bool.{cases_lt}
use Rattle.std.proofs.Math.Nat.{mul-le-mul_right}
use Rattle.coll_sched.specs.Regions.{Apart}
use Rattle.coll_plans.specs.DirectExchange.{place}
use Rattle.coll_plans.specs.DirectFamilies.{blocks_from}

-- block k of m ends where the last ends, or before
pub block_within : (k m b : ℕ) → k < m → k * b + b ≤ m * b
block_within k m b h = let e : suc k * b ≤ m * b = mul-le-mul_right b h in let s : suc k * b ≡ k * b + b = suc-mul k b in omega arith

pub places_apart : (at b k m : ℕ) → k ≢ m → Apart (place (blocks_from at b) k) (place (blocks_from at b) m)
places_apart at b k m d = go (cases_lt k m)
  where
    go : (k < m) ⊎ (m ≤ k) → Apart (place (blocks_from at b) k) (place (blocks_from at b) m)
    go (inl h) i x y z w = let l : k * b + b ≤ m * b = block_within k m b h in omega arith
    go (inr h) i x y z w = let l : m * b + b ≤ k * b = block_within m k b (omega arith) in omega arith
