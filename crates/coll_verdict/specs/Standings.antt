-- How a job goes on: each rank carries its commands out, one after the other, over one machine, and whenever it may the
-- library makes a request Done. Which rank goes on, and when a request becomes Done, is nobody's choice.
use Rattle.std.specs.Prelude.{◌≡◌, ◌⊎◌, ℕ, suc, Bool, true, false, ◌&&◌, not, List, [], ◌∷◌, length, slice_get, Option, Some, None, option_map}
use Rattle.coll_kinds.specs.declared.signature.Signature.{Signature}
use Rattle.coll_kinds.specs.declared.ticket.Ticket.{Ticket}
use Rattle.coll_kinds.specs.Common.{is_among, put}
use Rattle.coll_machine.specs.Common.{Setting, Machine, Request, State, found, Planned, MachineStep, opened}
use Rattle.coll_machine.specs.Calls as calls
use Rattle.coll_parser.specs.declared.command.Command.{Command}
use Rattle.coll_parser.specs.declared.command.Command.TheVariants.{Post, Init, Start, Wait, Test, Free, WaitAny, WaitSome, WaitAll}

-- ---- requests

-- what a rank holds of the requests that it has made, by their numbers: null, or a ticket (MPI 4.1, 3.7.3)
pub record Holding : Type 0 where
  pub made : ℕ  -- how many it has made
  pub of : ℕ → Option Ticket

-- before its first command
abbrev pub nothing_made : Holding
nothing_made = record { made = 0; of = λ q. None }

-- it holds something else of one of them
abbrev pub holding_at : Holding → ℕ → Option Ticket → Holding
holding_at h q what = record h { of = put h.of q what }

-- it has made one more, and holds its ticket
abbrev pub one_more : Holding → Ticket → Holding
one_more h t = record { made = suc h.made; of = put h.of h.made (Some t) }

-- a ticket that names no request any longer becomes null
abbrev pub kept : State → Ticket → Option Ticket
kept s t = option_map (λ request. t) (found s t)

abbrev pub active_in : Option Request → Bool
active_in None = false
active_in (Some request) = request.active

-- null and inactive requests aren't active
abbrev pub is_active : Machine → Option Ticket → Bool
is_active m None = false
is_active m (Some t) = active_in (found m.state t)

abbrev pub is_done : Machine → Option Ticket → Bool
is_done m None = false
is_done m (Some t) = is_active m (Some t) && m.done t.slot

-- active, and not Done yet
abbrev pub is_pending : Machine → Option Ticket → Bool
is_pending m None = false
is_pending m (Some t) = is_active m (Some t) && not (m.done t.slot)

-- it holds of each of these numbers
abbrev pub Each : List ℕ → (ℕ → Type 0) → Type 0
Each qs P = (q : ℕ) → is_among q qs ≡ true → P q

abbrev pub NoneActive : Machine → Holding → List ℕ → Type 0
NoneActive m h qs = Each qs (λ q. is_active m (h.of q) ≡ false)

abbrev pub NonePending : Machine → Holding → List ℕ → Type 0
NonePending m h qs = Each qs (λ q. is_pending m (h.of q) ≡ false)

abbrev pub NoneDone : Machine → Holding → List ℕ → Type 0
NoneDone m h qs = Each qs (λ q. is_done m (h.of q) ≡ false)

abbrev pub SomeDone : Machine → Holding → List ℕ → Type 0
SomeDone m h qs = (q : ℕ) × (is_among q qs ≡ true) × (is_done m (h.of q) ≡ true)

-- ---- commands

-- some of these requests of a rank are completed, one after the other
pub data Completes (g : Setting) (rank : ℕ) (qs : List ℕ) : Machine → Holding → Machine → Holding → Type 0 where
  none : {m : Machine} {h : Holding} → Completes g rank qs m h m h
  another : {m n last : Machine} {h i : Holding} (q comm place start : ℕ) (bytes : List ℕ) (t : Ticket)
      → is_among q qs ≡ true
      → h.of q ≡ Some t
      → MachineStep g m (calls.Retire rank t) (calls.Outcome rank comm place start bytes) n
      → Completes g rank qs n (holding_at h q (kept n.state t)) last i
      → Completes g rank qs m h last i

-- a rank carries a command out
pub data Carries (g : Setting) (rank : ℕ) (m : Machine) (h : Holding) : Command → Machine → Holding → Type 0 where
  -- a post and an initialisation make a request (MPI 4.1, 6.12, 6.13)
  post : {n : Machine} (comm : ℕ) (sig : Signature) (given : List ℕ) (plan : Planned) (t : Ticket)
      → plan.sig ≡ sig
      → MachineStep g m (calls.Post rank comm plan given) (calls.Ticketed t) n
      → Carries g rank m h (Post comm sig given) n (one_more h t)
  init : {n : Machine} (comm : ℕ) (sig : Signature) (plan : Planned) (t : Ticket)
      → plan.sig ≡ sig
      → MachineStep g m (calls.Init rank comm plan) (calls.Ticketed t) n
      → Carries g rank m h (Init comm sig) n (one_more h t)
  -- `MPI_Start`
  start : {n : Machine} (q : ℕ) (given : List ℕ) (t : Ticket)
      → h.of q ≡ Some t
      → MachineStep g m (calls.Start rank t given) calls.Nothing n
      → Carries g rank m h (Start q given) n h
  -- `MPI_Request_free`
  free : {n : Machine} (q : ℕ) (t : Ticket)
      → h.of q ≡ Some t
      → MachineStep g m (calls.Free rank t) calls.Nothing n
      → Carries g rank m h (Free q) n (holding_at h q (kept n.state t))
  -- `MPI_Test` completes the request if it is Done
  test : {n : Machine} {i : Holding} (q : ℕ)
      → Completes g rank (q ∷ []) m h n i
      → NoneDone n i (q ∷ [])
      → Carries g rank m h (Test q) n i
  -- `MPI_Wait` doesn't return while the request is pending,
  wait : {n : Machine} {i : Holding} (q : ℕ)
      → NonePending m h (q ∷ [])
      → Completes g rank (q ∷ []) m h n i
      → NoneDone n i (q ∷ [])
      → Carries g rank m h (Wait q) n i
  -- `MPI_Waitall` while one of them is,
  wait_all : {n : Machine} {i : Holding} (qs : List ℕ)
      → NonePending m h qs
      → Completes g rank qs m h n i
      → NoneDone n i qs
      → Carries g rank m h (WaitAll qs) n i
  -- `MPI_Waitsome` until one of them is Done, unless none is active, and completes all that are,
  wait_some : {n : Machine} {i : Holding} (qs : List ℕ)
      → NoneActive m h qs ⊎ SomeDone m h qs
      → Completes g rank qs m h n i
      → NoneDone n i qs
      → Carries g rank m h (WaitSome qs) n i
  -- and `MPI_Waitany` too, and completes one
  wait_for_none : (qs : List ℕ)
      → NoneActive m h qs
      → Carries g rank m h (WaitAny qs) m h
  wait_any : {n : Machine} (qs : List ℕ) (q comm place start : ℕ) (bytes : List ℕ) (t : Ticket)
      → is_among q qs ≡ true
      → h.of q ≡ Some t
      → MachineStep g m (calls.Retire rank t) (calls.Outcome rank comm place start bytes) n
      → Carries g rank m h (WaitAny qs) n (holding_at h q (kept n.state t))

-- ---- jobs

-- what a job has come to
pub record Standing : Type 0 where
  pub machine : Machine
  pub at : ℕ → ℕ  -- how many of its commands a rank has carried out
  pub holds : ℕ → Holding  -- and what it holds

abbrev pub beginning : Standing
beginning = record { machine = opened; at = λ rank. 0; holds = λ rank. nothing_made }

-- a rank has carried one command out
abbrev pub carried_out : Standing → ℕ → Machine → Holding → Standing
carried_out s rank n i = record {
  machine = n;
  at = put s.at rank (suc (s.at rank));
  holds = put s.holds rank i;
}

-- a step of the job in which a rank says these lines: a rank carries its next command out, or a request becomes Done,
-- for which it is enough that all whose contributions its value rests on have given: no library may do more
pub data Steps (g : Setting) (lines : ℕ → List Command) (s : Standing) : Standing → Type 0 where
  carries : {n : Machine} {i : Holding} (rank : ℕ) (c : Command)
      → slice_get (lines rank) (s.at rank) ≡ Some c
      → Carries g rank s.machine (s.holds rank) c n i
      → Steps g lines s (carried_out s rank n i)
  finishes : {n : Machine}
      → MachineStep g s.machine calls.Finish calls.Nothing n
      → Steps g lines s (record s { machine = n })

-- a run comes to it
pub data Reaches (g : Setting) (lines : ℕ → List Command) : Standing → Type 0 where
  begins : Reaches g lines beginning
  goes_on : {s u : Standing} → Reaches g lines s → Steps g lines s u → Reaches g lines u

-- each rank has carried all its commands out
abbrev pub AtEnd : (ℕ → List Command) → Standing → Type 0
AtEnd lines s = (rank : ℕ) → s.at rank ≡ length (lines rank)
