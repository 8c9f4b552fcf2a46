-- What a post, an initialisation or a start is refused with, without naming what lay under the lock: an engine with that setting denied
-- it, at a moment when it had at least the entries that the port had made.
use Rattle.std.specs.Prelude.{◌≡◌, ℕ, List, Option, Some, None}
use Rattle.coll_kinds.specs.declared.refusal.Refusal.{Refusal}
use Rattle.coll_kinds.specs.declared.refusal.Refusal.TheVariants.{Stale}
use Rattle.coll_kinds.specs.declared.ticket.Ticket.{Ticket}
use Rattle.coll_machine.specs.Common.{Call, Start, Setting}
use Rattle.coll_core.specs.Cores.{seen, setting}
use Rattle.coll_traced.specs.Moments.{IsMoment}
use Rattle.coll_traced.specs.Traced.{Denies, Traced}

pub record IsDenied (g : Setting) (made : ℕ) (call : Call) (why : Refusal) : Type 0 where
  pub at : Traced
  pub setting_is : setting at.core ≡ g
  pub moment : IsMoment g made at.entries (seen at.core).state
  pub denies : Denies at call why

-- a start of a null request is stale
abbrev pub DeniesStart : Setting → ℕ → ℕ → Option Ticket → List ℕ → Refusal → Type 0
DeniesStart g made rank None bytes why = why ≡ Stale
DeniesStart g made rank (Some t) bytes why = IsDenied g made (Start rank t bytes) why
