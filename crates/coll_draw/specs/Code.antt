-- What the crate's functions promise one another
use Rattle.std.specs.Prelude.{◌≡◌, ◌<◌, ◌≤◌, ℕ, List, Some, None, slice_get}
use Rattle.coll_kinds.specs.declared.signature.Signature.{Signature}
use Rattle.coll_kinds.specs.Checks.{broken}
use Rattle.coll_plans.specs.Plans.{Planned}

-- a collective among n members
pub record Collective : Type 0 where
  pub sig : Signature
  pub n : ℕ

-- the plan of each member
pub record ArePlans (sig : Signature) (n : ℕ) (plans : List Planned) : Type 0 where
  pub checked : broken sig n ≡ None
  pub not_none : 0 < n
  pub few : n ≤ 64
  pub each : (r : ℕ) → r < n → slice_get plans r ≡ Some (record { sig = sig; n = n; member = r })
