-- The machine: what each call answers and does.
use Rattle.std.specs.Prelude.{◌≡◌, ◌⊎◌, ℕ, Bool, true, false, List, None, Some}
use Rattle.coll_kinds.specs.declared.ticket.Ticket.{Ticket}
use Rattle.coll_kinds.specs.declared.refusal.Refusal.{Refusal}
use Rattle.coll_kinds.specs.declared.refusal.Refusal.TheVariants.{NoMemory}
use Rattle.coll_kinds.specs.Puts.{put}
use Rattle.coll_machine.specs.Settings.{Setting}
use Rattle.coll_machine.specs.States.{State, Machine}
use Rattle.coll_machine.specs.Calls.{Planned, Call, Post, Init, Start, Retire, Free, Finish, Reply, Ticketed, Outcome, Nothing, Refused}
use Rattle.coll_machine.specs.Refusals.{refusal}
use Rattle.coll_machine.specs.Steps.{Posts, Inits, Starts, Frees, Retires, Finishes}

abbrev pub phased : State → (ℕ → Bool) → Machine
phased s done = record { state = s; done = done }

-- a completion and a free take none
abbrev pub takes_memory : Call → Bool
takes_memory (Post rank comm plan bytes) = true
takes_memory (Init rank comm plan) = true
takes_memory (Start rank t bytes) = true
takes_memory call = false

-- one call with its answer
pub data MachineStep (g : Setting) : Machine → Call → Reply → Machine → Type 0 where
  post : {s u : State} {done : ℕ → Bool} (rank comm place : ℕ) (plan : Planned) (bytes : List ℕ) (t : Ticket)
      → Posts g s rank t comm place plan bytes u
      → MachineStep g (phased s done) (Post rank comm plan bytes) (Ticketed t) (phased u done)
  init : {s u : State} {done : ℕ → Bool} (rank comm place : ℕ) (plan : Planned) (t : Ticket)
      → Inits g s rank t comm place plan u
      → MachineStep g (phased s done) (Init rank comm plan) (Ticketed t) (phased u done)
  start : {s u : State} {done : ℕ → Bool} (rank start : ℕ) (t : Ticket) (bytes : List ℕ)
      → Starts g s rank t start bytes u
      → MachineStep g (phased s done) (Start rank t bytes) Nothing (phased u done)
  finish : {m : Machine} {done : ℕ → Bool} (slot : ℕ)
      → Finishes g m slot done
      → MachineStep g m Finish Nothing (phased m.state done)
  -- a Done request, and no other, is completed
  retire : {s u : State} {done : ℕ → Bool} (rank : ℕ) (t : Ticket) (comm place start : ℕ) (bytes : List ℕ)
      → Retires g s rank t comm place start bytes u
      → done t.slot ≡ true
      → MachineStep g (phased s done) (Retire rank t) (Outcome rank comm place start bytes)
      (phased u (put done t.slot false))
  -- one that is Pending or Idle stays as it is, and there is no outcome
  wait : {m : Machine} (rank : ℕ) (t : Ticket)
      → refusal g m.state (Retire rank t) ≡ None
      → m.done t.slot ≡ false
      → MachineStep g m (Retire rank t) Nothing m
  free : {s u : State} {done : ℕ → Bool} (rank : ℕ) (t : Ticket)
      → Frees g s rank t u
      → MachineStep g (phased s done) (Free rank t) Nothing (phased u done)
  -- a refused call changes nothing, and names the first condition that holds;
  refuse : {m : Machine} (call : Call) (why : Refusal)
      → refusal g m.state call ≡ Some why
      → MachineStep g m call (Refused why) m
  -- one whose memory is refused changes nothing either, and says so only where no other condition holds
  short : {m : Machine} (call : Call)
      → takes_memory call ≡ true
      → refusal g m.state call ≡ None
      → MachineStep g m call (Refused NoMemory) m

-- no step, or one request becomes Done
abbrev pub MayFinish : Setting → Machine → Machine → Type 0
MayFinish g m n = (m ≡ n) ⊎ MachineStep g m Finish Nothing n

-- the call's step, and then perhaps a request becomes Done
abbrev pub StepsTo : Setting → Machine → Call → Reply → Machine → Type 0
StepsTo g m call reply n = (mid : Machine) × MachineStep g m call reply mid × MayFinish g mid n
