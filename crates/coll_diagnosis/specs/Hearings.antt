-- Rows of truth values that say from whom the members of a collective hear by its schedules.
use Rattle.std.specs.Prelude.{◌≡◌, ◌||◌, ◌<◌, ℕ, Bool, List, [], length, map, slice_get, Option, Some, None, Vec, IfSome}
use Rattle.std.specs.Global.{Global}
use Rattle.std.specs.List.{list_any, range_with_len}
use Rattle.coll_kinds.specs.declared.signature.Signature.{Signature}
use Rattle.coll_sched.specs.Common.{actions_at}
use Rattle.coll_plans.specs.Hearings.{hears_from, hears_here}
use Rattle.coll_plans.specs.Plans.{family, Planned, IsPlanned}
use Rattle.coll_verdict.specs.Checking.{said_in, is_yes}

-- ---- rows of truth values

abbrev pub bit : List (Vec Bool Global) → ℕ → ℕ → Bool
bit rows r p = is_yes (said_in (slice_get rows r) p)

-- n rows of n truth values
pub record AreRows (n : ℕ) (holds : ℕ → ℕ → Bool) (rows : List (Vec Bool Global)) : Type 0 where
  pub size : length rows ≡ n
  pub each : (r : ℕ) → IfSome (slice_get rows r) (λ row. row.items ≡ map (holds r) (range_with_len 0 n))

-- the rows of a collective in the end
pub record IsHearing (sig : Signature) (n : ℕ) (rows : List (Vec Bool Global)) : Type 0 where
  pub rows_are : AreRows n (hears_here sig n) rows
  pub planned : 0 < n → IsPlanned sig n (family sig n)

-- ---- plans

pub record ArePlans (sig : Signature) (n : ℕ) (plans : List Planned) : Type 0 where
  pub size : length plans ≡ n
  pub each : (r : ℕ) → IfSome (slice_get plans r) (λ p. p ≡ record { sig = sig; n = n; member = r })
  pub planned : 0 < n → IsPlanned sig n (family sig n)

abbrev pub rounds_in : Option Planned → ℕ
rounds_in None = 0
rounds_in (Some p) = length (family p.sig p.n p.member).rounds

-- a sender of a message that the member receives in the round had heard from the other
abbrev pub hears_in : Planned → ℕ → List (Vec Bool Global) → ℕ → Bool
hears_in plan j before p = list_any (hears_from (λ q. bit before q p)) (actions_at (family plan.sig plan.n) j plan.member)

abbrev pub hears_now : Planned → ℕ → List (Vec Bool Global) → ℕ → Bool
hears_now plan j before p = bit before plan.member p || hears_in plan j before p

abbrev pub row_after : ℕ → List (Vec Bool Global) → ℕ → Option Planned → List Bool
row_after j before n None = []
row_after j before n (Some plan) = map (hears_now plan j before) (range_with_len 0 n)

-- the rows after a round
pub record AreRowsAfter (plans : List Planned) (j : ℕ) (before rows : List (Vec Bool Global)) : Type 0 where
  pub size : length rows ≡ length plans
  pub each : (r : ℕ) → IfSome (slice_get rows r) (λ row. row.items ≡ row_after j before (length plans) (slice_get plans r))
