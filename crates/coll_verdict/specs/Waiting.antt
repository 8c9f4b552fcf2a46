-- What runs come to with a library of which it is known for whom its requests wait, and that its initialisations don't.
use Rattle.std.specs.Prelude.{◌≡◌, ◌≢◌, ℕ, ◌<◌, ◌||◌, Bool, true, false, List, slice_get, Some, None}
use Rattle.coll_kinds.specs.declared.signature.Signature.{Signature}
use Rattle.coll_kinds.specs.Common.{needs, put}
use Rattle.coll_machine.specs.Common.{Setting, size, Request, State, Machine, key_of, phased, IsReady}
use Rattle.coll_parser.specs.declared.command.Command.{Command}
use Rattle.coll_parser.specs.declared.command.Command.TheVariants.{Init}
use Rattle.coll_parser.specs.Histories.{History}
use Rattle.coll_verdict.specs.Standings.{Holding, Standing, beginning, carried_out, Carries, AtEnd}
use Rattle.coll_verdict.specs.Stalls.{lines_of, Waits}

-- whether the request of a member waits for another to give: by the signature, the number of members, the member and the other
abbrev pub Hearing : Type 0
Hearing = Signature → ℕ → ℕ → ℕ → Bool

-- or its value rests on the other
abbrev pub awaits : Hearing → Hearing
awaits hears sig n r p = needs sig n r p || hears sig n r p

-- a start of the request may become Done: all on whom its value rests have given, and all for whom it waits
pub record HasHeard (hears : Hearing) (g : Setting) (s : State) (q : Request) (start : ℕ) (sig : Signature) : Type 0 where
  pub ready : IsReady g s q start sig
  pub heard : (p : ℕ) → p < size g q.comm → hears sig (size g q.comm) q.member p ≡ true → s.given (key_of q start) p ≢ None

-- a step, as in `Steps`, but a request becomes Done only if it has heard
pub data StepsBy (hears : Hearing) (g : Setting) (lines : ℕ → List Command) (s : Standing) : Standing → Type 0 where
  carries : {n : Machine} {i : Holding} (rank : ℕ) (c : Command)
      → slice_get (lines rank) (s.at rank) ≡ Some c
      → Carries g rank s.machine (s.holds rank) c n i
      → StepsBy hears g lines s (carried_out s rank n i)
  finishes : (slot start : ℕ) (q : Request) (sig : Signature)
      → s.machine.state.request slot ≡ Some q
      → s.machine.done slot ≡ false
      → HasHeard hears g s.machine.state q start sig
      → StepsBy hears g lines s (record s { machine = phased s.machine.state (put s.machine.done slot true) })

-- a run of such steps comes to it
pub data ReachesBy (hears : Hearing) (g : Setting) (lines : ℕ → List Command) : Standing → Type 0 where
  begins : ReachesBy hears g lines beginning
  goes_on : {s u : Standing} → ReachesBy hears g lines s → StepsBy hears g lines s u → ReachesBy hears g lines u

-- each rank is at its end or waits, in no initialisation, though whatever has heard is Done
pub record IsStalledBy (hears : Hearing) (g : Setting) (lines : ℕ → List Command) (s : Standing) : Type 0 where
  pub waits : (rank : ℕ) (c : Command) → slice_get (lines rank) (s.at rank) ≡ Some c → Waits g lines s rank c
  pub returns : (rank comm : ℕ) (sig : Signature) → slice_get (lines rank) (s.at rank) ≡ Some (Init comm sig) → ⊥
  pub settled : (slot start : ℕ) (q : Request) (sig : Signature)
      → s.machine.state.request slot ≡ Some q
      → HasHeard hears g s.machine.state q start sig
      → s.machine.done slot ≡ true
  pub early : AtEnd lines s → ⊥

-- in no run all ranks come to their ends
abbrev pub AlwaysStallsBy : Hearing → Setting → (ℕ → List Command) → Type 0
AlwaysStallsBy hears g lines = (s : Standing) → ReachesBy hears g lines s → AtEnd lines s → ⊥

-- no run stalls
abbrev pub NeverStallsBy : Hearing → Setting → (ℕ → List Command) → Type 0
NeverStallsBy hears g lines = (s : Standing) → ReachesBy hears g lines s → IsStalledBy hears g lines s → ⊥

-- of a job, whatever the limits are
abbrev pub StallsAlwaysBy : Hearing → History → Type 0
StallsAlwaysBy hears h = (g : Setting) → g.groups ≡ h.groups → AlwaysStallsBy hears g (lines_of h)

abbrev pub StallsNeverBy : Hearing → History → Type 0
StallsNeverBy hears h = (g : Setting) → g.groups ≡ h.groups → NeverStallsBy hears g (lines_of h)
