-- Where nothing can go on in an engine whose ports are in the lines of a job.
use Rattle.std.specs.Prelude.{◌≡◌, ◌≤◌, ◌⊎◌, ℕ, List, [], Some, replicate, slice_get, slice_set}
use Rattle.coll_machine.specs.Common.{Machine, MayFinish, Setting}
use Rattle.coll_plans.specs.Hearings.{hears_here}
use Rattle.coll_parser.specs.declared.command.Command.{Command}
use Rattle.coll_parser.specs.Histories.{History}
use Rattle.coll_verdict.specs.Standings.{Holding, Standing, AtEnd, beginning}
use Rattle.coll_verdict.specs.Stalls.{lines_of}
use Rattle.coll_verdict.specs.Waiting.{Hearing, ReachesBy, StepsBy, IsStalledBy, StallsAlwaysBy, StallsNeverBy}
use Rattle.coll_core.specs.declared.stepped.Stepped.{Stepped}
use Rattle.coll_core.specs.Cores.{Parts, seen, setting}
use Rattle.coll_core.specs.Steps.{CommitSteps, Returns, Steps}
use Rattle.coll_core.specs.Works.{Made, Piece}
use Rattle.coll_deadlock.specs.CoreCalls.{CallsCarryOut}
use Rattle.coll_deadlock.specs.CoreLaws.{GoesOnByCalls, GoesOnByCommit, GoesOnByStep, GoesOnWhereNothingChanges}
use Rattle.coll_deadlock.specs.Runs.{IsRunOf}
use Rattle.coll_traced.specs.declared.awaited.Awaited.{Awaited}
use Rattle.coll_traced.specs.Awaiting.{IsWaitFor}
use Rattle.coll_traced.specs.Stalls.{IsStalled}
use Rattle.coll_traced.specs.Traced.{Traced}
use Rattle.coll_traced.specs.Waits.{WaitFor, Awake}
use Rattle.coll_deadlock.specs.WaitCalls.{IsCallOf, IsUnmet}
use Rattle.coll_deadlock.specs.Lines.{AreAtLines, IsInLine}
use Rattle.coll_deadlock.specs.Locks.{ComesTo}

-- the core goes on with a job's run by its calls and steps
pub record GoesOn (p : Parts) : Type 0 where
  pub by_calls : GoesOnByCalls p
  pub by_each : CallsCarryOut p
  pub by_step : GoesOnByStep p
  pub by_commit : GoesOnByCommit p
  pub where_nothing_changes : GoesOnWhereNothingChanges p

-- where an engine was opened, all ports are awake, so each rank that has lines has a port which is in them
abbrev pub OpenAtLines : Type 0
OpenAtLines = (lines : ℕ → List Command) (n : ℕ) → ((rank : ℕ) → n ≤ rank → lines rank ≡ []) → AreAtLines (replicate n Awake) lines beginning

-- a port that is registered in the call of its rank's next line is in that line,
abbrev pub RegistersInLine : Type 0
RegistersInLine = (m : Machine) (rank : ℕ) (h : Holding) (c : Command) (wanted : Awaited) (wait : WaitFor)
    → IsCallOf h c wanted → IsUnmet m wanted → IsWaitFor m rank wanted wait → IsInLine m rank h c wait

-- and stays there, whatever others do, as long as its rank hasn't carried the line out
abbrev pub StaysInLine : Type 0
StaysInLine = (hears : Hearing) (g : Setting) (lines : ℕ → List Command) (s u : Standing) (rank : ℕ) (c : Command) (wait : WaitFor)
    → ReachesBy hears g lines s → StepsBy hears g lines s u → u.at rank ≡ s.at rank
    → IsInLine s.machine rank (s.holds rank) c wait → IsInLine u.machine rank (u.holds rank) c wait

-- so a step of the job leaves all ports in their ranks' lines, if each rank stays where it is or has a port that is awake,
abbrev pub StayAtLines : Type 0
StayAtLines = (hears : Hearing) (g : Setting) (lines : ℕ → List Command) (s u : Standing) (waits : List WaitFor)
    → ReachesBy hears g lines s → StepsBy hears g lines s u
    → ((rank : ℕ) → (u.at rank ≡ s.at rank) ⊎ (slice_get waits rank ≡ Some Awake))
    → AreAtLines waits lines s → AreAtLines waits lines u

-- and so does what is noted of one port that is in its rank's line, awake, or at its rank's end
abbrev pub NotedAtLines : Type 0
NotedAtLines = (lines : ℕ → List Command) (s : Standing) (waits : List WaitFor) (rank : ℕ) (wait : WaitFor)
    → ((c : Command) → slice_get (lines rank) (s.at rank) ≡ Some c → IsInLine s.machine rank (s.holds rank) c wait)
    → AreAtLines waits lines s → AreAtLines (slice_set waits rank wait) lines s

-- an engine that is stalled shows a stall of the job's run, unless all ranks are at their ends
abbrev pub StallIsStall : Traced → Type 0
StallIsStall t = (lines : ℕ → List Command) (s : Standing)
    → IsRunOf t.core lines s → AreAtLines t.waits lines s → IsStalled t → (AtEnd lines s → ⊥)
    → IsStalledBy hears_here (setting t.core) lines s

-- so where it is known that by this engine's schedules no run of the job stalls, the engine is stalled only where all are
abbrev pub NeverHereIsNoStall : Traced → Type 0
NeverHereIsNoStall t = (h : History) (s : Standing)
    → StallsNeverBy hears_here h → (setting t.core).groups ≡ h.groups
    → IsRunOf t.core (lines_of h) s → AreAtLines t.waits (lines_of h) s → IsStalled t
    → AtEnd (lines_of h) s

-- ---- all calls, one after the other

-- a step of the core is that perhaps a request becomes Done; so is the last of a combination, and one that comes back
pub record MayFinishBySteps (p r : Parts) : Type 0 where
  pub step : (stepped : Stepped) → Steps p r stepped → (setting r ≡ setting p) × MayFinish (setting p) (seen p) (seen r)
  pub commit : (d : Made) (stepped : Stepped) → CommitSteps p r d stepped → (setting r ≡ setting p) × MayFinish (setting p) (seen p) (seen r)
  pub abandon : (w : Piece) → Returns p r w → (setting r ≡ setting p) × MayFinish (setting p) (seen p) (seen r)

abbrev pub StepsMayFinish : Type 0
StepsMayFinish = (p r : Parts) → MayFinishBySteps p r

-- where it is known that by this engine's schedules no run of the job stalls, no calls come to a stalled engine, unless all ranks are at
-- their ends;
abbrev pub NoStallUnderLock : Type 0
NoStallUnderLock = (h : History) (t : Traced) (s : Standing)
    → StallsNeverBy hears_here h → (setting t.core).groups ≡ h.groups → ComesTo (lines_of h) t s → IsStalled t → AtEnd (lines_of h) s

-- and where it is known that each stalls, no calls come to where all are
abbrev pub AlwaysHereIsNoEnd : Type 0
AlwaysHereIsNoEnd = (h : History) (t : Traced) (s : Standing)
    → StallsAlwaysBy hears_here h → (setting t.core).groups ≡ h.groups → ComesTo (lines_of h) t s → AtEnd (lines_of h) s → ⊥
