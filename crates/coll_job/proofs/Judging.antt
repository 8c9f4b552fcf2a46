-- How a task ends says whether its text has a fault.
use Rattle.std.proofs.Common.{◌≡◌, ◌≢◌, ◌⊎◌, ℕ, List, take, Option, Some, None, Result, Ok, Err, true, false}
use Rattle.std.proofs.Common.{refl, sym, ap, subst, ◌∙◌, arith, inl, inr}
use Rattle.std.specs.Prelude.{◌==◌, ◌≤◌, ◌||◌, nat_le, Bool, IfErr, IfNone, IfOk, IfSome, IsOk, MatchResult, OnOk}
use Rattle.std.specs.Io.KnownBytes.{Appends, Keeps}
use Rattle.coll_parser.specs.declared.fault.Fault.{Fault}
use Rattle.coll_script.specs.declared.fault.JobFault.{JobFault}
use Rattle.coll_script.specs.declared.fault.JobFault.TheVariants.{Read, Write, Text, Stalled, Refused, Memory, NoThread, Torn}
use Rattle.coll_script.specs.Faults.{status_of}
use Rattle.coll_script.specs.Meaning.{meaning, HasMeaning}
use Rattle.coll_script.specs.Plain.{HasCause, IsPlainFault, IsFaultOf, IsInputFault, IsReadFault, WritesMeaning}
use Rattle.coll_script.proofs.Answering.{meaning-read}
use Rattle.coll_diagnosis.specs.Verdicts.{IsStatus}
use Rattle.coll_check.specs.Checked.{IsCheckFault, IsCheckStatus, IsSomeStatus, KeepsLines}
use Rattle.coll_diagnosis.specs.Unstalled.{IsNoStall}
use Rattle.coll_diagnosis.specs.declared.explaining.ExplainOptions.{ExplainOptions}
use Rattle.coll_check.specs.declared.checking.CheckForm.{CheckForm}
use Rattle.coll_check.specs.declared.checking.CheckForm.TheVariants as check_form
use Rattle.coll_witness.proofs.Saying.{says-of, true-read}
use Rattle.coll_job.specs.declared.task.Explaining.{Explaining}
use Rattle.coll_job.specs.declared.task.Way.{Way}
use Rattle.coll_job.specs.declared.task.Way.TheVariants.{Plain, Run, Explain, Check, Draw, DrawRun}
use Rattle.coll_check.specs.Checked.{WritesLines}
use Rattle.coll_check.specs.Says as checks
use Rattle.coll_job.specs.Endings.{status_in, EndsTask, EndsWithin, HasFailed}
use Rattle.coll_job.specs.Tasks.{is_answer, may_write, AnswersText, IsAnswer, IsExplainStatus, IsExplanation, IsStatusOf, IsTextStatus}

-- what is read of a text decides as much as the whole
pub status-read : (start : Option (List ℕ)) (text : List ℕ) (status : ℕ) → IfSome start (λ input. text ≡ take 1048577 input)
    → IsTextStatus text status → IfSome start (λ input. IsTextStatus input status)
status-read None text status read is = tt
status-read (Some input) text status read is = rw (meaning-read input text read) is

-- of a result: what is true of the text that was read is true of the whole
pub read-ok : (r : Result ℕ JobFault) (start : Option (List ℕ)) (text : List ℕ) → IfSome start (λ input. text ≡ take 1048577 input)
    → IfOk r (IsTextStatus text) → IfOk r (λ status. IfSome start (λ input. IsTextStatus input status))
read-ok (Ok status) start text read is = status-read start text status read is
read-ok (Err fault) start text read is = tt

pub read-err : (r : Result ℕ JobFault) (start : Option (List ℕ)) (text : List ℕ) → IfSome start (λ input. text ≡ take 1048577 input)
    → IfErr r (λ fault. IsTextStatus text (status_of fault)) → IfErr r (λ fault. IfSome start (λ input. IsTextStatus input (status_of fault)))
read-err (Ok status) start text read is = tt
read-err (Err fault) start text read is = status-read start text (status_of fault) read is

-- what was written of the text that was read is the meaning of the whole
pub answered-read : (r : Result ℕ JobFault) (start : Option (List ℕ)) (text : List ℕ) (old new : Option (List ℕ))
    → IfSome start (λ input. text ≡ take 1048577 input)
    → IfOk r (λ status. status ≡ 0 → WritesMeaning text old new) → IfOk r (λ status. status ≡ 0 → IfSome start (λ input. WritesMeaning input old new))
answered-read (Ok status) None text old new read writes = λ is. tt
answered-read (Ok status) (Some input) text old new read writes = λ is. ((writes is).0, meaning-read input text read ∙ (writes is).1, (writes is).2)
answered-read (Err fault) start text old new read writes = tt

-- ---- what is written is the answer

-- what is explained of the text that was read is true of the whole
pub answered-explain-read : (options : ExplainOptions) (r : Result ℕ JobFault) (start : Option (List ℕ)) (text : List ℕ) (old new : Option (List ℕ))
    → IfSome start (λ input. text ≡ take 1048577 input)
    → IfOk r (λ status. IsExplanation options status (Some text) old new)
    → IfOk r (λ status. IsExplanation options status start old new)
answered-explain-read options (Ok status) None text old new read writes = λ other. let e = writes other in (e.0, says-of text options status e.0 e.1, e.2)
answered-explain-read options (Ok status) (Some input) text old new read writes =
    λ other. let e = writes other in (e.0, true-read (Some input) text options status e.0 read e.1, e.2)
answered-explain-read options (Err fault) start text old new read writes = tt

-- a task that ends with the status of an answer was answered with it, and nothing was written after that
pub answered-task : (way : Way) (name : List ℕ) (answer : Result ℕ JobFault) (status : ℕ) (start old new old_errors early last : Option (List ℕ))
    → status ≡ status_in answer → OnOk answer (last ≡ early)
    → IfOk answer (λ s. IsAnswer way name s start old new old_errors early) → IfErr answer (λ fault. is_answer way (status_of fault) ≡ false)
    → is_answer way status ≡ true → IsAnswer way name status start old new old_errors last
answered-task way name (Ok s) status start old new old_errors early last is same answers unanswered ends =
    subst (λ (n : ℕ). IsAnswer way name n start old new old_errors last) (sym is)
    (subst (λ (bytes : Option (List ℕ)). IsAnswer way name s start old new old_errors bytes) (sym same) answers)
answered-task way name (Err fault) status start old new old_errors early last is same answers unanswered ends =
    absurd (let both : true ≡ false = sym ends ∙ (ap (is_answer way) is ∙ unanswered) in cc)

-- where no file is named
pub given-none : {X : Type 0} (file : Option X) (P : Type 0) → P → IfNone file P
given-none None P p = p
given-none (Some name) P p = tt

pub given-some : {X : Type 0} (file : Option X) (P : Type 0) → P → IfSome file (λ name. P)
given-some None P p = tt
given-some (Some name) P p = p

-- ---- a text that was read is answered

-- nothing was written after it
pub answers-ended : (way : Way) (name : List ℕ) (answer : Result ℕ JobFault) (status : ℕ) (old new old_errors early last : Option (List ℕ))
    → status ≡ status_in answer → OnOk answer (last ≡ early)
    → IfOk answer (λ s. AnswersText way name s old new old_errors early) → IfErr answer (λ fault. is_answer way (status_of fault) ≡ false)
    → AnswersText way name status old new old_errors last
answers-ended way name (Ok s) status old new old_errors early last is same answers unanswered =
    subst (λ (n : ℕ). AnswersText way name n old new old_errors last) (sym is)
    (subst (λ (bytes : Option (List ℕ)). AnswersText way name s old new old_errors bytes) (sym same) answers)
answers-ended way name (Err fault) status old new old_errors early last is same answers unanswered =
    λ ends. absurd (let both : true ≡ false = sym ends ∙ (ap (is_answer way) is ∙ unanswered) in cc)

-- ---- a reader that failed is heeded

heeded : (fault : JobFault) (before reader all writer : Bool) → all ≡ (before || reader) → HasCause fault reader false → HasCause fault all writer
heeded Read true reader all writer is cause = is
heeded Read false reader all writer is cause = is ∙ cause
heeded Write before reader all writer is cause = absurd (let both : false ≡ true = cause in cc)
heeded (Text fault) before reader all writer is cause = tt
heeded Stalled before reader all writer is cause = tt
heeded (Refused why) before reader all writer is cause = tt
heeded Memory before reader all writer is cause = tt
heeded NoThread before reader all writer is cause = tt
heeded Torn before reader all writer is cause = tt

pub cause-heeded : {T : Type 0} (r : Result T JobFault) (before reader all writer : Bool) → all ≡ (before || reader)
    → IfErr r (λ fault. HasCause fault reader false) → IfErr r (λ fault. HasCause fault all writer)
cause-heeded (Ok text) before reader all writer is cause = tt
cause-heeded (Err fault) before reader all writer is cause = heeded fault before reader all writer is cause
