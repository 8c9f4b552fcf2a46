-- What is Done in a machine, and which requests have heard by the schedules that this engine carries out.
use Rattle.std.specs.Prelude.{◌≡◌, ℕ, true, Some}
use Rattle.coll_kinds.specs.declared.signature.Signature.{Signature}
use Rattle.coll_machine.specs.Common.{Setting, Request, State, Machine}
use Rattle.coll_plans.specs.Hearings.{hears_here}
use Rattle.coll_verdict.specs.Waiting.{HasHeard}

-- whatever has heard is Done
abbrev pub IsSettled : Setting → Machine → Type 0
IsSettled g m = (slot start : ℕ) (q : Request) (sig : Signature)
    → m.state.request slot ≡ Some q
    → HasHeard hears_here g m.state q start sig
    → m.done slot ≡ true

-- the slot's request has heard
pub record SlotHasHeard (g : Setting) (s : State) (slot : ℕ) : Type 0 where
  pub request : Request
  pub start : ℕ
  pub sig : Signature
  pub is : s.request slot ≡ Some request
  pub heard : HasHeard hears_here g s request start sig

-- nothing is Done that hasn't heard
abbrev pub NoneEarly : Setting → Machine → Type 0
NoneEarly g m = (slot : ℕ) → m.done slot ≡ true → SlotHasHeard g m.state slot
