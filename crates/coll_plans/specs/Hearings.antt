-- From whom the members of a collective hear by the end of their schedules, computed.
use Rattle.std.specs.Prelude.{◌≡◌, ◌==◌, ◌||◌, ℕ, zero, suc, Bool, true, false, length}
use Rattle.std.specs.List.{list_any}
use Rattle.coll_kinds.specs.declared.signature.Signature.{Signature}
use Rattle.coll_sched.specs.declared.action.Action.{Action}
use Rattle.coll_sched.specs.declared.action.Action.TheVariants.{Send, Copy, Combine, Recv}
use Rattle.coll_sched.specs.Common.{Family, Heard, actions_at}
use Rattle.coll_plans.specs.Plans.{family}

-- the action receives from a member of which this holds
abbrev pub hears_from : (ℕ → Bool) → Action → Bool
hears_from holds (Send to from) = false
hears_from holds (Copy from into) = false
hears_from holds (Combine op ty left right into) = false
hears_from holds (Recv of into) = holds of

-- what member p gave can have reached member r before round j
abbrev pub heard_in : Family → ℕ → ℕ → ℕ → Bool
heard_in f zero r p = p == r
heard_in f (suc j) r p = heard_in f j r p || list_any (hears_from (λ q. heard_in f j q p)) (actions_at f j r)

-- by the end of the schedule that this engine carries out for the signature, the number of members and member r
abbrev pub hears_here : Signature → ℕ → ℕ → ℕ → Bool
hears_here sig n r p = heard_in (family sig n) (length (family sig n r).rounds) r p

-- it is what the proofs of schedules speak of
abbrev pub HeardIsHeard : Type 0
HeardIsHeard = (f : Family) (j r p : ℕ) → (heard_in f j r p ≡ true → Heard f j r p) × (Heard f j r p → heard_in f j r p ≡ true)
