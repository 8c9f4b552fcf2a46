-- What holds of stands that are closed, and what runs of no job and of a short one come to.
use Rattle.std.specs.Prelude.{◌≡◌, ℕ, List, length}
use Rattle.coll_kinds.specs.Needs.{needs}
use Rattle.coll_machine.specs.Settings.{Setting}
use Rattle.coll_parser.specs.declared.command.Command.{Command}
use Rattle.coll_parser.specs.Histories.{History, beginning}
use Rattle.coll_verdict.specs.Passes.{Passes, everyone, only}
use Rattle.coll_verdict.specs.Stalls.{AlwaysStalls, NeverStalls, StallsAlways, StallsNever}
use Rattle.coll_verdict.specs.Stands.{AreClosed, IsShort}
use Rattle.coll_verdict.specs.Waiting.{Hearing, AlwaysStallsBy, NeverStallsBy, StallsAlwaysBy, StallsNeverBy}

-- no run goes beyond closed stands, so none comes to its end where one of them is short of it
abbrev pub ClosedStandsStall : Type 0
ClosedStandsStall = (g : Setting) (lines : ℕ → List Command) (stands : ℕ → ℕ)
    → AreClosed needs g lines stands → IsShort lines stands → AlwaysStalls g lines

-- so with a library of which it is known for whom its requests wait
abbrev pub ClosedStandsStallBy : Type 0
ClosedStandsStallBy = (hears : Hearing) (g : Setting) (lines : ℕ → List Command) (stands : ℕ → ℕ)
    → AreClosed hears g lines stands → IsShort lines stands → AlwaysStallsBy hears g lines

-- a job without ranks is at its end as it begins
abbrev pub EmptyJobEnds : Type 0
EmptyJobEnds = StallsAlways beginning → ⊥

-- where ranks can all pass to their ends, no run stalls
abbrev pub PassesDontStall : Type 0
PassesDontStall = (g : Setting) (lines : ℕ → List Command) (at : ℕ → ℕ)
    → Passes everyone g lines at → ((rank : ℕ) → at rank ≡ length (lines rank)) → NeverStalls g lines

-- so with a library of which it is known for whom its requests wait
abbrev pub PassesDontStallBy : Type 0
PassesDontStallBy = (hears : Hearing) (g : Setting) (lines : ℕ → List Command) (at : ℕ → ℕ)
    → Passes (only hears) g lines at → ((rank : ℕ) → at rank ≡ length (lines rank)) → NeverStallsBy hears g lines

-- what is so with every library is so with each
abbrev pub AlwaysIsAlwaysBy : Type 0
AlwaysIsAlwaysBy = (hears : Hearing) (h : History) → StallsAlways h → StallsAlwaysBy hears h

abbrev pub NeverIsNeverBy : Type 0
NeverIsNeverBy = (hears : Hearing) (h : History) → StallsNever h → StallsNeverBy hears h
