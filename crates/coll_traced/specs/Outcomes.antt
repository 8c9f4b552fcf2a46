-- What a completion hands out, in the words of the machine and of the trace.
use Rattle.std.specs.Prelude.{Bool, ℕ, List, [], ◌∷◌, Option, Some, None, if◌then◌else◌}
use Rattle.coll_kinds.specs.declared.ticket.Ticket.{Ticket}
use Rattle.coll_machine.specs.Calls as calls
use Rattle.coll_machine.specs.Common.{Reply, Entry, Freed, Retired}
use Rattle.coll_core.specs.declared.outcome.Outcome.{Outcome}

-- the machine's answer
abbrev pub outcome_of : Outcome → Reply
outcome_of o = calls.Outcome o.rank o.comm o.place o.start o.bytes

-- the trace's entry
abbrev pub retired : ℕ → Ticket → Outcome → Entry
retired rank t o = Retired rank t o.comm o.place o.start o.bytes

-- that of the free of a request; of a null one there is none
abbrev pub release : ℕ → Option Ticket → List Entry
release rank None = []
release rank (Some t) = Freed rank t ∷ []

-- what the caller has in place of a request that was completed: the request, or null
abbrev pub left_by : Bool → Ticket → Option Ticket
left_by stays t = if stays then Some t else None

-- a request that was completed for its port, and the entry of that
pub record CompletedFor : Type 0 where
  pub rank : ℕ
  pub ticket : Ticket
  pub made : ℕ  -- the entries that the port had made before
  pub entry : Entry
