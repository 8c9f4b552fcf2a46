-- What holds of this engine between its calls, and of the jobs that are run on it.
use Rattle.std.specs.Prelude.{◌≡◌, ℕ, List, slice_get, Some}
use Rattle.coll_machine.specs.Common.{Machine, MachineStep, MayFinish, Finish, Nothing, Setting, AreGroups, ArePosted}
use Rattle.coll_plans.specs.Hearings.{hears_here}
use Rattle.coll_parser.specs.declared.command.Command.{Command}
use Rattle.coll_parser.specs.Histories.{History}
use Rattle.coll_verdict.specs.Standings.{Holding, Standing, beginning, carried_out, Carries, AtEnd}
use Rattle.coll_verdict.specs.Stalls.{lines_of}
use Rattle.coll_verdict.specs.Waiting.{StepsBy, IsStalledBy, StallsAlwaysBy, StallsNeverBy}
use Rattle.coll_core.specs.declared.config.Config.{Config}
use Rattle.coll_core.specs.declared.stepped.Stepped.{Stepped}
use Rattle.coll_core.specs.Configs.{IsConfig, idle, setting_by}
use Rattle.coll_core.specs.Cores.{Parts, seen, setting}
use Rattle.coll_core.specs.Phases.{IsQuiet}
use Rattle.coll_core.specs.Steps.{CommitSteps, Finishings, Steps}
use Rattle.coll_core.specs.Works.{Made}
use Rattle.coll_deadlock.specs.Heard.{IsSettled, NoneEarly}
use Rattle.coll_deadlock.specs.Runs.{AllWait, IsRunOf}

-- ---- an engine between its calls

-- what an engine may be opened with are groups
abbrev pub ConfigsAreGroups : Type 0
ConfigsAreGroups = (c : Config) → IsConfig c → AreGroups (setting_by c)

-- where nothing is ready and nothing is out, whatever has heard is Done. The engine's calls were those of a run of the machine
abbrev pub QuietIsSettled : Parts → Type 0
QuietIsSettled p = AreGroups (setting p) → ArePosted (setting p) (seen p).state → IsQuiet p → IsSettled (setting p) (seen p)

-- ---- a Finish

-- where nothing is Done early after it, it is a step of a library that waits for whom its members hear
abbrev pub FinishIsStep : Type 0
FinishIsStep = (g : Setting) (n : Machine) (lines : ℕ → List Command) (s : Standing)
    → MachineStep g s.machine Finish Nothing n → NoneEarly g n → StepsBy hears_here g lines s (record s { machine = n })

-- ---- a run of a job, and the engine's calls

-- it begins where the engine was just opened;
abbrev pub BeginsWhereOpened : Type 0
BeginsWhereOpened = (p : Parts) (lines : ℕ → List Command) → seen p ≡ idle → IsRunOf p lines beginning

-- a call that carries a rank's next line out goes on with it, whether a request becomes Done after that or not;
abbrev pub GoesOnByCalls : Parts → Type 0
GoesOnByCalls r = (p : Parts) (lines : ℕ → List Command) (s : Standing) (rank : ℕ) (c : Command) (mid : Machine) (i : Holding)
    → IsRunOf p lines s
    → setting r ≡ setting p
    → slice_get (lines rank) (s.at rank) ≡ Some c
    → Carries (setting p) rank (seen p) (s.holds rank) c mid i
    → MayFinish (setting p) mid (seen r)
    → IsRunOf r lines (carried_out s rank (seen r) i)

-- and so do the engine's own steps: one,
abbrev pub GoesOnByStep : Parts → Type 0
GoesOnByStep r = (p : Parts) (lines : ℕ → List Command) (s : Standing) (stepped : Stepped)
    → IsRunOf p lines s → Steps p r stepped → IsRunOf r lines (record s { machine = seen r })

-- the last of a combination,
abbrev pub GoesOnByCommit : Parts → Type 0
GoesOnByCommit r = (p : Parts) (lines : ℕ → List Command) (s : Standing) (d : Made) (stepped : Stepped)
    → IsRunOf p lines s → CommitSteps p r d stepped → IsRunOf r lines (record s { machine = seen r })

-- many,
abbrev pub GoesOnBySteps : Parts → Type 0
GoesOnBySteps r = (p : Parts) (lines : ℕ → List Command) (s : Standing)
    → IsRunOf p lines s → setting r ≡ setting p → Finishings (setting p) (seen p) (seen r) → IsRunOf r lines (record s { machine = seen r })

-- and a call that changes nothing that callers see
abbrev pub GoesOnWhereNothingChanges : Parts → Type 0
GoesOnWhereNothingChanges r = (p : Parts) (lines : ℕ → List Command) (s : Standing)
    → IsRunOf p lines s → setting r ≡ setting p → seen r ≡ seen p → IsRunOf r lines s

-- ---- stalls

-- where nothing is ready and nothing is out, and each rank is at its end or waits, some not at their ends, the run stalls
abbrev pub QuietStalls : Parts → Type 0
QuietStalls p = (lines : ℕ → List Command) (s : Standing)
    → AreGroups (setting p) → IsRunOf p lines s → IsQuiet p → AllWait (setting p) lines s → (AtEnd lines s → ⊥)
    → IsStalledBy hears_here (setting p) lines s

-- so of a job of which it is known that no run by this engine's schedules stalls, all ranks are at their ends there;
abbrev pub NeverHereEnds : Parts → Type 0
NeverHereEnds p = (h : History) (s : Standing)
    → StallsNeverBy hears_here h → (setting p).groups ≡ h.groups → AreGroups (setting p)
    → IsRunOf p (lines_of h) s → IsQuiet p → AllWait (setting p) (lines_of h) s
    → AtEnd (lines_of h) s

-- and one of which it is known that each such run stalls has no calls that bring all ranks to their ends
abbrev pub AlwaysHereNeverEnds : Parts → Type 0
AlwaysHereNeverEnds p = (h : History) (s : Standing)
    → StallsAlwaysBy hears_here h → (setting p).groups ≡ h.groups → IsRunOf p (lines_of h) s → AtEnd (lines_of h) s → ⊥
