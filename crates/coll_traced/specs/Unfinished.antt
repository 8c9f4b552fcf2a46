-- Why a wait isn't over: at a moment of the engine, when this had accepted the requests, what the wait is for wasn't the case.
use Rattle.std.specs.Prelude.{◌≡◌, ℕ, List, Option, None, true}
use Rattle.std.specs.List.{list_any}
use Rattle.coll_kinds.specs.declared.ticket.Ticket.{Ticket}
use Rattle.coll_machine.specs.Common.{Entry, Setting, Machine}
use Rattle.coll_complete.specs.Requests.{is_pending, list_refusal, refusal_at}
use Rattle.coll_traced.specs.Awaiting.{IsUnfinished}
use Rattle.coll_traced.specs.Moments.{IsMoment}

-- the request was Pending
pub record WasPending (g : Setting) (made rank : ℕ) (request : Option Ticket) : Type 0 where
  pub before : List Entry
  pub engine : Machine
  pub moment : IsMoment g made before engine.state
  pub accepted : refusal_at g engine.state rank request ≡ None
  pub pending : is_pending engine request ≡ true

-- a request of the list was Pending
pub record HadPending (g : Setting) (made rank : ℕ) (list : List (Option Ticket)) : Type 0 where
  pub before : List Entry
  pub engine : Machine
  pub moment : IsMoment g made before engine.state
  pub accepted : list_refusal g engine.state rank list ≡ None
  pub pending : list_any (is_pending engine) list ≡ true

-- of the list's requests some were active, and none was Done
pub record WasUnfinished (g : Setting) (made rank : ℕ) (list : List (Option Ticket)) : Type 0 where
  pub before : List Entry
  pub engine : Machine
  pub moment : IsMoment g made before engine.state
  pub accepted : list_refusal g engine.state rank list ≡ None
  pub unfinished : IsUnfinished engine list
