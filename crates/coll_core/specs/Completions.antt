-- What a completion takes out of the arena.
use Rattle.std.specs.Prelude.{◌≡◌, ◌<◌, ◌⊎◌, ℕ, true, List, length, Option, Some, None}
use Rattle.std.specs.Option.{ForSome}
use Rattle.coll_kinds.specs.declared.kind.Kind.{Kind}
use Rattle.coll_kinds.specs.declared.kind.Kind.TheVariants.{Allgather, Allgatherv, Bcast}
use Rattle.coll_kinds.specs.declared.ticket.Ticket.{Ticket}
use Rattle.coll_sched.specs.Regions.{Inside, read_of}
use Rattle.coll_arena.specs.Slots.{Slots, names, record_in}
use Rattle.coll_machine.specs.declared.key.Key.{Key}
use Rattle.coll_machine.specs.Common.{Retire, refusal}
use Rattle.coll_match.specs.Held.{Held}
use Rattle.coll_match.specs.Instances.{IsJoined, given}
use Rattle.coll_refinement.specs.Requests.{key}
use Rattle.coll_core.specs.declared.request.Request.{Request}
use Rattle.coll_core.specs.Requests.{schedule, shown}
use Rattle.coll_core.specs.Cores.{Parts, seen, setting}

-- the ticket names the rank's request x
pub record Owns (p : Parts) (rank : ℕ) (t : Ticket) (x : Request) : Type 0 where
  pub accepted : refusal (setting p) (seen p).state (Retire rank t) ≡ None
  pub named : names p.arena t ≡ true
  pub found : record_in p.arena t.slot ≡ Some x

-- its communicator is one of the arena's, and its buffer has its outcome
pub record GivesUp (a : Slots Request) (x : Request) : Type 0 where
  pub comm_in : x.comm < a.comms
  pub outcome_in : Inside (length x.buffer) (schedule (shown x)).output

-- the bytes, where there are some, are the outcome that the request's buffer has
abbrev pub IsOutcome : Option (List ℕ) → Request → Type 0
IsOutcome known x = ForSome known (λ bytes. bytes ≡ read_of x.buffer (schedule (shown x)).output)

-- each member's outcome is what all members gave, joined
abbrev pub IsGathering : Kind → Type 0
IsGathering kind = (kind ≡ Allgather) ⊎ (kind ≡ Allgatherv)

-- the instance has the bytes of a Done request's outcome: what the root of a bcast gave, or what all members gave, joined
abbrev pub IsKnown : List (Key × Held) → Request → List ℕ → Type 0
IsKnown matches x bytes =
    ((x.plan.sig.kind ≡ Bcast) × (given matches (key (shown x)) x.plan.sig.root ≡ Some bytes))
    ⊎ (IsGathering x.plan.sig.kind × IsJoined matches (key (shown x)) bytes)
