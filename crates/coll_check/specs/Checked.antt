-- What checking a text may end in.
use Rattle.std.specs.Prelude.{◌≡◌, ◌⊎◌, ℕ, List, Option, IfSome, MatchResult}
use Rattle.std.specs.Io.KnownBytes.{Appends, Keeps}
use Rattle.coll_script.specs.declared.fault.JobFault.{JobFault}
use Rattle.coll_script.specs.declared.fault.JobFault.TheVariants.{Read, Write, Text, Memory}
use Rattle.coll_script.specs.Meaning.{meaning, HasMeaning}
use Rattle.coll_diagnosis.specs.Verdicts.{IsStatus}
use Rattle.coll_check.specs.declared.checking.CheckForm.{CheckForm}
use Rattle.coll_check.specs.declared.checking.CheckForm.TheVariants as form

-- the exit status of a text: 2 where it has a fault, and else that of an explanation
abbrev pub IsCheckStatus : List ℕ → ℕ → Type 0
IsCheckStatus text status = MatchResult (meaning text) (λ lines. IsStatus status) (λ fault. status ≡ 2)

-- the exit status of some text
abbrev pub IsSomeStatus : ℕ → Type 0
IsSomeStatus status = (status ≡ 2) ⊎ IsStatus status

-- why a text isn't checked that was read: no fault of its own is among these
abbrev pub IsCheckFaultOf : List ℕ → JobFault → Type 0
IsCheckFaultOf text Read = ⊥
IsCheckFaultOf text Write = ⊥
IsCheckFaultOf text (Text fault) = ⊥
IsCheckFaultOf text Memory = Unit {0}
IsCheckFaultOf text fault = HasMeaning text

-- why what is read isn't checked, where the text is known
abbrev pub IsCheckFault : Option (List ℕ) → JobFault → Type 0
IsCheckFault input Read = Unit {0}
IsCheckFault input Write = Unit {0}
IsCheckFault input (Text fault) = ⊥
IsCheckFault input Memory = Unit {0}
IsCheckFault input fault = IfSome input HasMeaning

-- lines for a reader leave what standard output has as it was
abbrev pub KeepsLines : CheckForm → Option (List ℕ) → Option (List ℕ) → Type 0
KeepsLines (form.Text colored) old new = Keeps old new
KeepsLines form.Json old new = Unit {0}

-- lines for a reader go to standard error, and JSON to standard output
abbrev pub WritesLines : CheckForm → Option (List ℕ) → Option (List ℕ) → Option (List ℕ) → Option (List ℕ) → List ℕ → Type 0
WritesLines (form.Text colored) old_output new_output old_errors new_errors lines = Appends old_errors new_errors lines
WritesLines form.Json old_output new_output old_errors new_errors lines = Appends old_output new_output lines
