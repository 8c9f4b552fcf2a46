-- What holds of every run and of every legal trace.
use Rattle.std.specs.Prelude.{◌≡◌, ◌+◌, ◌≤◌, ℕ, true, List, [], ◌∷◌, ◌++◌, length, unwrap_or, option_map, Some}
use Rattle.coll_kinds.specs.declared.signature.Signature.{Signature}
use Rattle.coll_kinds.specs.Common.{member_of, lent}
use Rattle.coll_machine.specs.Settings.{Setting, group, size}
use Rattle.coll_machine.specs.States.{Request, State, Machine, nothing, found}
use Rattle.coll_machine.specs.Calls.{Call, Post, Init, Start, Retire, Free, Reply, Ticketed, Outcome, Nothing}
use Rattle.coll_machine.specs.Steps.{IsReady}
use Rattle.coll_machine.specs.Machines.{MachineStep}
use Rattle.coll_machine.specs.Runs.{Event, Run}
use Rattle.coll_machine.specs.Entries.{Entry, Posted, Inited, Started, Retired, Freed}
use Rattle.coll_machine.specs.Traces.{Enters, Leads, reserved, LegalTrace}
use Rattle.coll_machine.specs.Lents.{lent_at, lent_bytes}
use Rattle.coll_machine.specs.Postings.{ArePosted}

-- ---- steps and entries

-- what a call adds to the trace: an entry where it is accepted and changes what callers see, else none
abbrev pub Adds : Call → Reply → List Entry → Type 0
Adds (Post rank comm plan bytes) (Ticketed t) added =
    (place : ℕ) × (added ≡ Posted rank t comm place plan.sig bytes ∷ [])
Adds (Init rank comm plan) (Ticketed t) added = (place : ℕ) × (added ≡ Inited rank t comm place plan.sig ∷ [])
Adds (Start rank t bytes) Nothing added = (start : ℕ) × (added ≡ Started rank t start bytes ∷ [])
Adds (Retire rank t) (Outcome who comm place start bytes) added = added ≡ Retired who t comm place start bytes ∷ []
Adds (Free rank t) Nothing added = added ≡ Freed rank t ∷ []
Adds call reply added = added ≡ []

-- a trace that leads to the machine's state does so after each step, with the step's entry if it has one
abbrev pub StepsAreTraced : Type 0
StepsAreTraced = (g : Setting) (m n : Machine) (call : Call) (reply : Reply) (es : List Entry)
    → Leads g nothing es m.state → MachineStep g m call reply n
    → (added : List Entry) × Adds call reply added × Leads g nothing (es ++ added) n.state

-- the entries are those of these calls, one after the other
abbrev pub Shows : List Event → List Entry → Type 0
Shows [] es = es ≡ []
Shows (e ∷ events) es = (added rest : List Entry) × Adds e.call e.reply added × Shows events rest × (es ≡ added ++ rest)

-- each run has a trace that leads to its machine's state
abbrev pub RunsAreTraced : Type 0
RunsAreTraced = (g : Setting) (events : List Event) (m : Machine) → Run g events m
    → (es : List Entry) × Shows events es × Leads g nothing es m.state

-- and each legal trace is that of a run: it says nothing that no engine could do
abbrev pub TracesAreRun : Type 0
TracesAreRun = (g : Setting) (s : State) (es : List Entry) → Leads g nothing es s
    → (events : List Event) × (m : Machine) × Run g events m × Shows events es × (m.state ≡ s)

-- ---- room

-- an entry that begins something speaks for one more, each other one was spoken for
abbrev pub Reserves : Entry → ℕ → ℕ → Type 0
Reserves (Posted rank t comm place sig bytes) before after = after ≡ before + 1
Reserves (Inited rank t comm place sig) before after = after ≡ before + 1
Reserves (Started rank t start bytes) before after = after ≡ before + 1
Reserves (Retired rank t comm place start bytes) before after = after + 1 ≡ before
Reserves (Freed rank t) before after = after + 1 ≡ before

abbrev pub ReservedChanges : Type 0
ReservedChanges = (g : Setting) (s u : State) (es : List Entry) (e : Entry)
    → Leads g nothing es s → Enters g s e u → Reserves e (reserved g s) (reserved g u)

-- room for one entry and for the one that it speaks for; what was spoken for needs none
abbrev pub HasRoom : Setting → State → List Entry → Entry → Type 0
HasRoom g s es (Posted rank t comm place sig bytes) = length es + reserved g s + 2 ≤ g.trace
HasRoom g s es (Inited rank t comm place sig) = length es + reserved g s + 2 ≤ g.trace
HasRoom g s es (Started rank t start bytes) = length es + reserved g s + 2 ≤ g.trace
HasRoom g s es (Retired rank t comm place start bytes) = Unit {0}
HasRoom g s es (Freed rank t) = Unit {0}

-- a legal trace stays one with an entry that may come and has room
abbrev pub LegalGoesOn : Type 0
LegalGoesOn = (g : Setting) (s u : State) (es : List Entry) (e : Entry)
    → LegalTrace g es s → Enters g s e u → HasRoom g s es e → LegalTrace g (es ++ e ∷ []) u

-- ---- posting lists, and what is Done

-- where a legal trace leads, posting lists agree, and live requests stand for their entries
abbrev pub TracesArePosted : Type 0
TracesArePosted = (g : Setting) (s : State) (es : List Entry) → Leads g nothing es s → ArePosted g s

-- so they do after each run
abbrev pub RunsArePosted : Type 0
RunsArePosted = (g : Setting) (events : List Event) (m : Machine) → Run g events m → ArePosted g m.state

-- the request in a slot can be completed
pub record IsHeld (g : Setting) (s : State) (slot : ℕ) : Type 0 where
  pub request : Request
  pub start : ℕ
  pub sig : Signature
  pub is : s.request slot ≡ Some request
  pub ready : IsReady g s request start sig

-- a Done request can be completed: what its value rests on is kept until then
abbrev pub DoneIsHeld : Type 0
DoneIsHeld = (g : Setting) (events : List Event) (m : Machine) → Run g events m
    → (slot : ℕ) → m.done slot ≡ true → IsHeld g m.state slot

-- ---- the bytes lent

-- how an entry changes them: a post and a start lend the bytes of one start, which its completion gives back
abbrev pub Lends : Setting → State → Entry → ℕ → ℕ → Type 0
Lends g s (Posted rank t comm place sig bytes) before after =
    after ≡ before + lent sig (size g comm) (unwrap_or (member_of rank (group g comm)) 0)
Lends g s (Inited rank t comm place sig) before after = after ≡ before
Lends g s (Started rank t start bytes) before after =
    after ≡ before + unwrap_or (option_map (lent_at g s) (found s t)) 0
Lends g s (Retired rank t comm place start bytes) before after =
    after + unwrap_or (option_map (lent_at g s) (found s t)) 0 ≡ before
Lends g s (Freed rank t) before after = after ≡ before

abbrev pub LentChanges : Type 0
LentChanges = (g : Setting) (s u : State) (es : List Entry) (e : Entry)
    → Leads g nothing es s → Enters g s e u → Lends g s e (lent_bytes g s) (lent_bytes g u)
