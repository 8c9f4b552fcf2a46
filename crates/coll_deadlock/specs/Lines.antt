-- How the ports of an engine stand where the ranks of a job carry their lines out, each by calls on its own port.
use Rattle.std.specs.Prelude.{◌≡◌, ℕ, true, List, Contains, slice_get, Some}
use Rattle.coll_kinds.specs.declared.ticket.Ticket.{Ticket}
use Rattle.coll_kinds.specs.Common.{is_among}
use Rattle.coll_machine.specs.Common.{Machine}
use Rattle.coll_parser.specs.declared.command.Command.{Command}
use Rattle.coll_parser.specs.declared.command.Command.TheVariants.{Wait, WaitAll, WaitSome, WaitAny}
use Rattle.coll_verdict.specs.Standings.{Holding, Standing, is_active}
use Rattle.coll_traced.specs.Waits.{WaitFor, Awake, ForOne, ForAny}

-- the tickets of all these requests that aren't null are listed
abbrev pub AreListed : Holding → List ℕ → List Ticket → Type 0
AreListed h qs tickets = (q : ℕ) (t : Ticket) → is_among q qs ≡ true → h.of q ≡ Some t → Contains tickets t

-- a rank's port waits in the call of this line for what the line waits for, or it can make calls. A call that waits was made while its
-- request was active, or one of its list; no other call of a rank can make it inactive
pub data IsInLine (m : Machine) (rank : ℕ) (h : Holding) : Command → WaitFor → Type 0 where
  awake : (c : Command) → IsInLine m rank h c Awake
  in_wait : (q : ℕ) (t : Ticket)
      → h.of q ≡ Some t
      → is_active m (Some t) ≡ true
      → IsInLine m rank h (Wait q) (ForOne rank t)
  in_wait_all : (qs : List ℕ) (q : ℕ) (t : Ticket)
      → is_among q qs ≡ true
      → h.of q ≡ Some t
      → is_active m (Some t) ≡ true
      → IsInLine m rank h (WaitAll qs) (ForOne rank t)
  in_wait_some : (qs : List ℕ) (q : ℕ) (tickets : List Ticket)
      → is_among q qs ≡ true
      → is_active m (h.of q) ≡ true
      → AreListed h qs tickets
      → IsInLine m rank h (WaitSome qs) (ForAny rank tickets)
  in_wait_any : (qs : List ℕ) (q : ℕ) (tickets : List Ticket)
      → is_among q qs ≡ true
      → is_active m (h.of q) ≡ true
      → AreListed h qs tickets
      → IsInLine m rank h (WaitAny qs) (ForAny rank tickets)

-- a rank with a next line has a port, which stands so
pub record IsAtLine (waits : List WaitFor) (m : Machine) (rank : ℕ) (h : Holding) (c : Command) : Type 0 where
  pub wait : WaitFor
  pub is : slice_get waits rank ≡ Some wait
  pub in_line : IsInLine m rank h c wait

-- and so with each rank
abbrev pub AreAtLines : List WaitFor → (ℕ → List Command) → Standing → Type 0
AreAtLines waits lines s = (rank : ℕ) (c : Command) → slice_get (lines rank) (s.at rank) ≡ Some c → IsAtLine waits s.machine rank (s.holds rank) c
