-- What the words of a command line ask for, and how that ends.
use denote.Ref.{Bor}
use Rattle.std.specs.Prelude.{◌≡◌, ◌≢◌, ℕ, ◌≤◌, ◌⊎◌, ◌==◌, ◌||◌, nat_le, Bool, true, false, List, Option, Some, None, IfSome, MatchOption, MatchResult, codes}
use Rattle.std.specs.Io.KnownBytes.{Appends}
use Rattle.clap.specs.declared.error.kind.ErrorKind.{ErrorKind}
use Rattle.clap.specs.declared.error.kind.ErrorKind.TheVariants.{DisplayHelp, DisplayVersion, OutOfMemory}
use Rattle.coll_script.specs.Meaning.{meaning}
use Rattle.coll_script.specs.Plain.{WritesMeaning}
use Rattle.coll_diagnosis.specs.declared.explaining.ExplainOptions.{ExplainOptions}
use Rattle.coll_check.specs.Checked.{WritesLines}
use Rattle.coll_check.specs.Says as checks
use Rattle.coll_check.specs.declared.checking.CheckForm.{CheckForm}
use Rattle.coll_check.specs.declared.checking.CheckForm.TheVariants.{Text, Json}
use Rattle.coll_witness.specs.Findings as findings
use Rattle.coll_job.specs.declared.task.Way.{Way}
use Rattle.coll_job.specs.declared.task.Way.TheVariants.{Plain, Run, Explain, Check, Draw, DrawRun}

-- the progress threads that it wants
abbrev pub workers_of : Way → ℕ
workers_of Plain = 0
workers_of (Run options) = options.workers
workers_of (Explain explaining) = 0
workers_of (Check form) = 0
workers_of (Draw draft) = 0
workers_of (DrawRun workers file) = workers

-- a status with which a job that is answered ends, and one that isn't
abbrev pub IsStatusOf : Way → ℕ → Type 0
IsStatusOf Plain status = (status ≤ 2) ⊎ (status ≡ 5)
IsStatusOf (Run options) status = status ≤ 5
IsStatusOf (Explain explaining) status = status ≤ 6
IsStatusOf (Check form) status = status ≤ 6
IsStatusOf (Draw draft) status = status ≤ 5
IsStatusOf (DrawRun workers file) status = status ≤ 5

-- a task that ends with that status may have written to standard output: an answer, or what a write fault left of it; with
-- the statuses of a stall an explanation; with that of a fault of the text only its faults as JSON. A check that writes lines for
-- a reader never does.
abbrev pub may_write : Way → ℕ → Bool
may_write Plain status = nat_le status 1
may_write (Run options) status = nat_le status 1
may_write (Explain explaining) status = nat_le status 1 || (status == 3 || status == 6)
may_write (Check (Text colored)) status = false
may_write (Check Json) status = nat_le status 3 || status == 6
may_write (Draw draft) status = nat_le status 1
may_write (DrawRun workers file) status = nat_le status 1

-- how a text is named where it is shown
abbrev pub name_of : Option (Bor (List ℕ)) → List ℕ
name_of None = codes "<stdin>"
name_of (Some name) = name.now

-- a task that ends with that status is answered; nothing is said of drawings
abbrev pub is_answer : Way → ℕ → Bool
is_answer Plain status = status == 0
is_answer (Run options) status = status == 0
is_answer (Explain explaining) status = status == 0 || (status == 3 || status == 6)
is_answer (Check form) status = status == 0 || (status == 2 || (status == 3 || status == 6))
is_answer (Draw draft) status = false
is_answer (DrawRun workers file) status = false

-- the status of an explanation: 1 if the file of its page can't be written
abbrev pub IsExplainStatus : ℕ → Type 0
IsExplainStatus status = (status ≡ 1) ⊎ findings.IsStatus status

-- what is written where a text is explained with that status
abbrev pub IsExplanation : ExplainOptions → ℕ → Option (List ℕ) → Option (List ℕ) → Option (List ℕ) → Type 0
IsExplanation options status input old new =
    status ≢ 1
    → (lines : List ℕ)
    × MatchOption input (findings.Says options status lines) (λ text. findings.IsTrueOf text options status lines)
    × Appends old new lines

-- what is written where a task is answered with that status: the text's meaning; what an explanation says that has the status, and whose
-- verdict is true of the text; what is said of a text of that name that is checked with it. Where the text's bytes are known: they come after
-- the status, and then the old and the new bytes of standard output, and those of standard error
abbrev pub IsAnswer : Way → List ℕ → ℕ → Option (List ℕ) → Option (List ℕ) → Option (List ℕ) → Option (List ℕ) → Option (List ℕ) → Type 0
IsAnswer Plain name status input old new old_errors new_errors = status ≡ 0 → IfSome input (λ text. WritesMeaning text old new)
IsAnswer (Run options) name status input old new old_errors new_errors = status ≡ 0 → IfSome input (λ text. WritesMeaning text old new)
IsAnswer (Explain explaining) name status input old new old_errors new_errors = IsExplanation explaining.options status input old new
IsAnswer (Check form) name status input old new old_errors new_errors =
    (lines : List ℕ)
    × IfSome input (λ text. checks.Says form name text status lines)
    × WritesLines form old new old_errors new_errors lines
IsAnswer (Draw draft) name status input old new old_errors new_errors = Unit {0}
IsAnswer (DrawRun workers file) name status input old new old_errors new_errors = Unit {0}

abbrev pub IsAnswered : Way → List ℕ → ℕ → Option (List ℕ) → Option (List ℕ) → Option (List ℕ) → Option (List ℕ) → Option (List ℕ) → Type 0
IsAnswered way name status input old new old_errors new_errors =
    is_answer way status ≡ true → IsAnswer way name status input old new old_errors new_errors

-- the same of a text that was read, whatever that is
abbrev pub AnswersText : Way → List ℕ → ℕ → Option (List ℕ) → Option (List ℕ) → Option (List ℕ) → Option (List ℕ) → Type 0
AnswersText way name status old new old_errors new_errors =
    is_answer way status ≡ true → (text : List ℕ) × IsAnswer way name status (Some text) old new old_errors new_errors

-- how a text may be answered: with status 2 exactly where it has a fault, unless a stream failed or memory was refused before that
-- was told
abbrev pub IsTextStatus : List ℕ → ℕ → Type 0
IsTextStatus text status =
    MatchResult (meaning text) (λ lines. status ≢ 2) (λ fault. (status ≡ 2) ⊎ ((status ≡ 1) ⊎ (status ≡ 5)))

-- the same of each task on a text, where that is known
abbrev pub IsJudged : Way → Option (List ℕ) → ℕ → Type 0
IsJudged Plain input status = IfSome input (λ text. IsTextStatus text status)
IsJudged (Run options) input status = IfSome input (λ text. IsTextStatus text status)
IsJudged (Explain explaining) input status = IfSome input (λ text. IsTextStatus text status)
IsJudged (Check form) input status = IfSome input (λ text. IsTextStatus text status)
IsJudged (Draw draft) input status = Unit {0}
IsJudged (DrawRun workers file) input status = IfSome input (λ text. IsTextStatus text status)

-- how words end of which the parser makes no task: a call for help or for the version isn't wrong, want of memory says nothing of the
-- words, and all others are wrong words
abbrev pub IsRefusal : ErrorKind → ℕ → Type 0
IsRefusal DisplayHelp status = status ≢ 2
IsRefusal DisplayVersion status = status ≢ 2
IsRefusal OutOfMemory status = status ≡ 5
IsRefusal kind status = status ≡ 2
