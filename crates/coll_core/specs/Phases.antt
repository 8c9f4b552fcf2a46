-- What callers learn of a request.
use Rattle.std.specs.Prelude.{◌≡◌, ◌≢◌, ◌<◌, ℕ, Bool, true, false, length, Option, Some, None}
use Rattle.coll_lists.specs.Layouts.{sequence}
use Rattle.coll_arena.specs.declared.list_name.ListName.TheVariants.{Ready, Running, Done as DoneList}
use Rattle.coll_arena.specs.ListNames.{number_of}
use Rattle.coll_machine.specs.Common.{Machine, Request, found, size}
use Rattle.coll_kinds.specs.declared.ticket.Ticket.{Ticket}
use Rattle.coll_core.specs.declared.phase.Phase.{Phase}
use Rattle.coll_core.specs.declared.phase.Phase.TheVariants.{Idle, Pending, Done}
use Rattle.coll_core.specs.declared.about.About.{About}
use Rattle.coll_refinement.specs.FreeLocks.{HasHeard}
use Rattle.coll_refinement.specs.Requests.{Live, key}
use Rattle.coll_core.specs.Cores.{Parts, setting, tables}

-- by whether the request is active, and Done
abbrev pub phase_by : Bool → Bool → Phase
phase_by false done = Idle
phase_by true false = Pending
phase_by true true = Done

abbrev pub phase_of : Machine → Ticket → Option Request → Option Phase
phase_of m t None = None
phase_of m t (Some q) = Some (phase_by q.active (m.done t.slot))

abbrev pub about_of : Option Request → Option About
about_of None = None
about_of (Some q) = Some (record {
  rank = q.rank;
  comm = q.comm;
  place = q.place;
  mode = q.mode;
  starts = q.starts;
})

-- of the request that the ticket names
abbrev pub phase_in : Machine → Ticket → Option Phase
phase_in m t = phase_of m t (found m.state t)

abbrev pub about_in : Machine → Ticket → Option About
about_in m t = about_of (found m.state t)

-- no request is ready, and no combination is handed out
pub record IsQuiet (p : Parts) : Type 0 where
  pub ready : length (sequence p.arena.lists (number_of Ready)) ≡ 0
  pub running : length (sequence p.arena.lists (number_of Running)) ≡ 0

-- each start to which all members have given is Done at each member that works on it
abbrev pub IsFinished : Parts → Type 0
IsFinished p = (i : ℕ) (q : Live)
    → (tables p).request i ≡ Some q
    → q.active ≡ true
    → ((m : ℕ) → m < size (setting p) q.comm → (tables p).given (key q) m ≢ None)
    → (tables p).home i ≡ number_of (DoneList q.comm)

-- those of its starts that members work on are Done exactly where all have given from whom the member hears by its schedule
pub record AreDoneOnceHeard (p : Parts) : Type 0 where
  pub once : IsQuiet p
      → (i : ℕ) (q : Live)
      → (tables p).request i ≡ Some q
      → q.active ≡ true
      → HasHeard (tables p) q
      → (tables p).home i ≡ number_of (DoneList q.comm)
  pub not_before : (i : ℕ) (q : Live)
      → (tables p).request i ≡ Some q
      → (tables p).home i ≡ number_of (DoneList q.comm)
      → HasHeard (tables p) q
