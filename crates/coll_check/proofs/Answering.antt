-- What is read decides how it is checked.
use Rattle.std.proofs.Common.{◌≡◌, ℕ, List, take, Option, Some, None, sym, ap, subst, ◌∙◌}
use Rattle.std.specs.Prelude.{IfOk, IfSome, IsOk, MatchResult, Result, Ok, Err, true, false, is_ok}
use Rattle.coll_parser.specs.declared.fault.Fault.{Fault}
use Rattle.coll_script.specs.declared.fault.JobFault.{JobFault}
use Rattle.coll_script.specs.declared.fault.JobFault.TheVariants.{Read, Write, Text, Stalled, Refused, Memory, NoThread, Torn}
use Rattle.coll_script.specs.Meaning.{meaning, HasMeaning}
use Rattle.coll_script.specs.Plain.{IsFaultOf}
use Rattle.coll_script.proofs.Answering.{meaning-read, HasMeaning-read}
use Rattle.coll_diagnosis.specs.Verdicts.{IsStatus}
use Rattle.coll_check.specs.declared.checking.CheckForm.{CheckForm}
use Rattle.coll_check.specs.Checked.{IsCheckStatus, IsCheckFaultOf, IsCheckFault}
use Rattle.coll_check.specs.Says.{Says, ReportsFault, ReportsNone, explained_as}
use Rattle.coll_witness.proofs.Saying.{true-read}

-- a text with a fault is reported with status 2
pub IsCheckStatus-fault : (text : List ℕ) (fault : Fault) (status : ℕ) → status ≡ 2 → meaning text ≡ Err fault → IsCheckStatus text status
IsCheckStatus-fault text fault status two is =
    subst (λ (m : Result (List ℕ) Fault). MatchResult m (λ lines. IsStatus status) (λ fault. status ≡ 2)) (sym is) two

-- one that has a meaning with the status of an explanation
pub IsCheckStatus-meaning : (text : List ℕ) (status : ℕ) → HasMeaning text → IsStatus status → IsCheckStatus text status
IsCheckStatus-meaning text status means is = go (meaning text) means
  where
    go : (m : Result (List ℕ) Fault) → IsOk m → MatchResult m (λ lines. IsStatus status) (λ fault. status ≡ 2)
    go (Ok lines) ok = is
    go (Err fault) ok = absurd (let both : false ≡ true = ok in cc)

pub IsCheckStatus-read : (start : Option (List ℕ)) (text : List ℕ) (status : ℕ) → IfSome start (λ input. text ≡ take 1048577 input)
    → IsCheckStatus text status → IfSome start (λ input. IsCheckStatus input status)
IsCheckStatus-read None text status read is = tt
IsCheckStatus-read (Some input) text status read is =
    subst (λ (m : Result (List ℕ) Fault). MatchResult m (λ lines. IsStatus status) (λ fault. status ≡ 2)) (sym (meaning-read input text read)) is

-- a text that has a meaning has no fault
pub IsCheckFaultOf-meaning : (fault : JobFault) (text : List ℕ) → HasMeaning text → IsFaultOf text fault → IsCheckFaultOf text fault
IsCheckFaultOf-meaning Read text means fails = absurd fails
IsCheckFaultOf-meaning Write text means fails = absurd fails
IsCheckFaultOf-meaning (Text fault) text means fails = absurd (let both : true ≡ false = sym means ∙ ap (λ (m : Result (List ℕ) Fault). is_ok m) fails in cc)
IsCheckFaultOf-meaning Memory text means fails = tt
IsCheckFaultOf-meaning Stalled text means fails = means
IsCheckFaultOf-meaning (Refused why) text means fails = means
IsCheckFaultOf-meaning NoThread text means fails = means
IsCheckFaultOf-meaning Torn text means fails = means

pub IsCheckFault-read : (fault : JobFault) (start : Option (List ℕ)) (text : List ℕ) → IfSome start (λ input. text ≡ take 1048577 input)
    → IsCheckFaultOf text fault → IsCheckFault start fault
IsCheckFault-read Read start text read fails = tt
IsCheckFault-read Write start text read fails = tt
IsCheckFault-read (Text fault) start text read fails = absurd fails
IsCheckFault-read Memory start text read fails = tt
IsCheckFault-read Stalled start text read means = HasMeaning-read start text read means
IsCheckFault-read (Refused why) start text read means = HasMeaning-read start text read means
IsCheckFault-read NoThread start text read means = HasMeaning-read start text read means
IsCheckFault-read Torn start text read means = HasMeaning-read start text read means

-- the report of a fault is what is said of a text that has it
pub Says-fault : (form : CheckForm) (name text : List ℕ) (status : ℕ) (fault : Fault) (lines : List ℕ) → meaning text ≡ Err fault
    → ReportsFault form name fault lines
    → Says form name text status lines
Says-fault form name text status fault lines is reports =
    subst (λ (m : Result (List ℕ) Fault). MatchResult m (λ outcomes. ReportsNone form name text status lines) (λ fault. ReportsFault form name fault lines))
    (sym is) reports

-- the report of no fault, of a text that has a meaning
pub Says-none : (form : CheckForm) (name text : List ℕ) (status : ℕ) (lines : List ℕ) → HasMeaning text → ReportsNone form name text status lines
    → Says form name text status lines
Says-none form name text status lines means reports = go (meaning text) means
  where
    go : (m : Result (List ℕ) Fault) → IsOk m
        → MatchResult m (λ outcomes. ReportsNone form name text status lines) (λ fault. ReportsFault form name fault lines)
    go (Ok outcomes) ok = reports
    go (Err fault) ok = absurd (let both : false ≡ true = ok in cc)

pub Says-none-ok : {X E : Type 0} (bytes : X → List ℕ) (status : X → ℕ) (form : CheckForm) (name text : List ℕ) (r : Result X E) → HasMeaning text
    → IfOk r (λ x. ReportsNone form name text (status x) (bytes x)) → IfOk r (λ x. Says form name text (status x) (bytes x))
Says-none-ok bytes status form name text (Ok x) means reports = Says-none form name text (status x) (bytes x) means reports
Says-none-ok bytes status form name text (Err e) means reports = tt

-- what is said of the text that was read is said of the whole
pub Says-read : (form : CheckForm) (name : List ℕ) (start : Option (List ℕ)) (text : List ℕ) (status : ℕ) (lines : List ℕ)
    → IfSome start (λ input. text ≡ take 1048577 input) → Says form name text status lines → IfSome start (λ input. Says form name input status lines)
Says-read form name None text status lines read says = tt
Says-read form name (Some input) text status lines read says =
    subst (λ (m : Result (List ℕ) Fault). MatchResult m (λ outcomes. ReportsNone form name input status lines) (λ fault. ReportsFault form name fault lines))
    (sym (meaning-read input text read))
    (go (meaning text) says)
  where
    none : ReportsNone form name text status lines → ReportsNone form name input status lines
    none reports = (reports.0, reports.1, reports.2, true-read (Some input) text (explained_as form) status reports.0 read reports.3)

    go : (m : Result (List ℕ) Fault) → MatchResult m (λ outcomes. ReportsNone form name text status lines) (λ fault. ReportsFault form name fault lines)
        → MatchResult m (λ outcomes. ReportsNone form name input status lines) (λ fault. ReportsFault form name fault lines)
    go (Ok outcomes) reports = none reports
    go (Err fault) reports = reports
