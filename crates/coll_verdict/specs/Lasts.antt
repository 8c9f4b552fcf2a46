-- Where a run can't go on: no rank can carry its next command out, and no request may become Done.
use Rattle.std.specs.Prelude.{◌≡◌, ℕ, List, slice_get, Some, None}
use Rattle.coll_kinds.specs.declared.ticket.Ticket.{Ticket}
use Rattle.coll_machine.specs.Common.{Setting, State, Planned, refusal}
use Rattle.coll_machine.specs.Calls as calls
use Rattle.coll_parser.specs.declared.command.Command.{Command}
use Rattle.coll_parser.specs.declared.command.Command.TheVariants.{Post, Init, Start, Wait, Test, Free, WaitAny, WaitSome, WaitAll}
use Rattle.coll_parser.specs.Histories.{History}
use Rattle.coll_verdict.specs.Standings.{Holding, Standing, Steps, Reaches, AtEnd}
use Rattle.coll_verdict.specs.Stalls.{lines_of, IsStalled, StallsAlways, StallsNever}

-- no step is left
abbrev pub IsLast : Setting → (ℕ → List Command) → Standing → Type 0
IsLast g lines s = (u : Standing) → Steps g lines s u → ⊥

-- the machine accepts the command's call. One that completes requests is never refused
abbrev pub IsAccepted : Setting → State → ℕ → Holding → Command → Type 0
IsAccepted g s rank h (Post comm sig given) = (plan : Planned) × (plan.sig ≡ sig) × (refusal g s (calls.Post rank comm plan given) ≡ None)
IsAccepted g s rank h (Init comm sig) = (plan : Planned) × (plan.sig ≡ sig) × (refusal g s (calls.Init rank comm plan) ≡ None)
IsAccepted g s rank h (Start q given) = (t : Ticket) × (h.of q ≡ Some t) × (refusal g s (calls.Start rank t given) ≡ None)
IsAccepted g s rank h (Wait q) = Unit {0}
IsAccepted g s rank h (Test q) = Unit {0}
IsAccepted g s rank h (Free q) = (t : Ticket) × (h.of q ≡ Some t) × (refusal g s (calls.Free rank t) ≡ None)
IsAccepted g s rank h (WaitAny qs) = Unit {0}
IsAccepted g s rank h (WaitSome qs) = Unit {0}
IsAccepted g s rank h (WaitAll qs) = Unit {0}

-- and so for the next command of each rank
abbrev pub AreAccepted : Setting → (ℕ → List Command) → Standing → Type 0
AreAccepted g lines s = (rank : ℕ) (c : Command) → slice_get (lines rank) (s.at rank) ≡ Some c → IsAccepted g s.machine.state rank (s.holds rank) c

-- a run that can't go on, though no next call is refused, has stalled, unless each rank is at its end
abbrev pub LastIsStalled : Type 0
LastIsStalled = (g : Setting) (lines : ℕ → List Command) (s : Standing)
    → Reaches g lines s → IsLast g lines s → AreAccepted g lines s → (AtEnd lines s → ⊥) → IsStalled g lines s

-- so where no run comes to its end, it has stalled: each rank is at its end or waits
abbrev pub StallsAtLast : Type 0
StallsAtLast = (h : History) → StallsAlways h → (g : Setting) → g.groups ≡ h.groups → (s : Standing)
    → Reaches g (lines_of h) s → IsLast g (lines_of h) s → AreAccepted g (lines_of h) s → IsStalled g (lines_of h) s

-- and where none stalls, each rank is at its end
abbrev pub EndsAtLast : Type 0
EndsAtLast = (h : History) → StallsNever h → (g : Setting) → g.groups ≡ h.groups → (s : Standing)
    → Reaches g (lines_of h) s → IsLast g (lines_of h) s → AreAccepted g (lines_of h) s → AtEnd (lines_of h) s
