-- What a verdict means, its exit status and its words.
use Rattle.std.specs.Prelude.{◌≡◌, ◌++◌, ℕ, ◌⊎◌, Bool, true, false, List, Ok, codes, if◌then◌else◌}
use Rattle.coll_parser.specs.Histories.{History}
use Rattle.coll_script.specs.Jobs.{script_of}
use Rattle.coll_verdict.specs.Stalls.{StallsAlways, StallsNever}
use Rattle.coll_verdict.specs.Waiting.{StallsAlwaysBy, StallsNeverBy}
use Rattle.coll_plans.specs.Hearings.{hears_here}
use Rattle.coll_diagnosis.specs.declared.verdict.Verdict.{Verdict}
use Rattle.coll_diagnosis.specs.declared.verdict.Verdict.TheVariants.{Never, NeverHere, Perhaps, AlwaysHere, Always}

-- 0 where no run by this engine's schedules stalls, 3 where every one does, and 6 where neither was shown; to be strict is to ask for
-- every library
abbrev pub status_of : Bool → Verdict → ℕ
status_of strict Never = 0
status_of false NeverHere = 0
status_of true NeverHere = 6
status_of strict Perhaps = 6
status_of strict AlwaysHere = 3
status_of strict Always = 3

-- every run by this engine's schedules stalls
abbrev pub is_always_here : Verdict → Bool
is_always_here Never = false
is_always_here NeverHere = false
is_always_here Perhaps = false
is_always_here AlwaysHere = true
is_always_here Always = true

-- no run stalls, with any library
abbrev pub is_never : Verdict → Bool
is_never Never = true
is_never NeverHere = false
is_never Perhaps = false
is_never AlwaysHere = false
is_never Always = false

-- what a verdict means of all runs of a job, whatever the limits are: with every library, or where each request waits for those
-- from whom it hears by this engine's schedules
abbrev pub Means : Verdict → History → Type 0
Means Never h = StallsNever h
Means NeverHere h = StallsNeverBy hears_here h
Means Perhaps h = Unit {0}
Means AlwaysHere h = StallsAlwaysBy hears_here h
Means Always h = StallsAlways h

-- it means something, so it is proved
abbrev pub is_proved : Verdict → Bool
is_proved Never = true
is_proved NeverHere = true
is_proved Perhaps = false
is_proved AlwaysHere = true
is_proved Always = true

-- the same of the job of a text
abbrev pub MeansOf : List ℕ → Verdict → Type 0
MeansOf text verdict = (h : History) → script_of text ≡ Ok h → Means verdict h

-- the exit status of some verdict
abbrev pub IsStatus : ℕ → Type 0
IsStatus status = (status ≡ 0) ⊎ ((status ≡ 3) ⊎ (status ≡ 6))

-- the words of a verdict, with which lines for a reader begin: those of no other begin with them
abbrev pub heading : Verdict → List ℕ
heading Never = codes "never stalls"
heading NeverHere = codes "warning: by this engine's schedules no run stalls"
heading Perhaps = codes "warning: may stall"
heading AlwaysHere = codes "by this engine's schedules every run stalls"
heading Always = codes "stalled in every run, with every MPI library"

-- the bytes begin with these
abbrev pub Begins : List ℕ → List ℕ → Type 0
Begins front bytes = (rest : List ℕ) × (bytes ≡ front ++ rest)

-- the verdict in a word of JSON
abbrev pub word : Verdict → List ℕ
word Never = codes "never"
word NeverHere = codes "never here"
word Perhaps = codes "perhaps"
word AlwaysHere = codes "always here"
word Always = codes "always"

-- a truth value in JSON
abbrev pub truth_word : Bool → List ℕ
truth_word is_true = if is_true then codes "true" else codes "false"
