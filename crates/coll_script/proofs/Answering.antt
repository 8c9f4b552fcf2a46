-- What is read decides what is answered.
use Rattle.std.proofs.Common.{◌≡◌, ℕ, List, length, take, Option, Some, None, Result, Ok, ap, sym, ◌∙◌, arith, inl, inr}
use Rattle.std.specs.Prelude.{IfSome, is_ok}
use Rattle.std.specs.Io.KnownBytes.{Appends}
use Rattle.std.proofs.lemmas.Bool.{cases_lt}
use Rattle.std.proofs.lemmas.List.{take_all, length-take}
use Rattle.coll_parser.specs.declared.fault.Fault.{Fault}
use Rattle.coll_parser.specs.Reading.{and_then}
use Rattle.coll_parser.specs.Histories.{History}
use Rattle.coll_script.specs.Jobs.{script_of, job_of}
use Rattle.coll_script.specs.Meaning.{meaning, HasMeaning, job_lines}
use Rattle.coll_script.proofs.Reading.{script_of-long}
use Rattle.coll_script.specs.declared.fault.JobFault.{JobFault}
use Rattle.coll_script.specs.declared.fault.JobFault.TheVariants.{Read, Write, Text, Stalled, Refused, Memory, NoThread, Torn}
use Rattle.coll_script.specs.Plain.{IsPlainFault, IsAnswerFault, IsFaultOf, IsInputFault, WritesMeaning}

-- the first byte too many tells as much as all of them
meaning-take : (input : List ℕ) → meaning (take 1048577 input) ≡ meaning input
meaning-take input = elim (cases_lt 1048577 (length input)) [
  | inl lt ↦ (let len = length-take 1048577 input in
      let one = script_of-long (take 1048577 input) (omega arith) in
      let other = script_of-long input (omega arith) in
      ap (λ (read : Result History Fault). and_then read (λ h. Ok (job_lines (job_of h)))) (one ∙ sym other))
  | inr le ↦ ap meaning (take_all 1048577 input le)
]

pub meaning-read : (input text : List ℕ) → text ≡ take 1048577 input → meaning input ≡ meaning text
meaning-read input text is = sym (meaning-take input) ∙ ap meaning (sym is)

-- a text that has a script has a meaning
pub HasMeaning-script : (text : List ℕ) (h : History) → script_of text ≡ Ok h → HasMeaning text
HasMeaning-script text h is = ap (λ (read : Result History Fault). is_ok (and_then read (λ h. Ok (job_lines (job_of h))))) is

pub HasMeaning-read : (start : Option (List ℕ)) (text : List ℕ) → IfSome start (λ input. text ≡ take 1048577 input) → HasMeaning text → IfSome start HasMeaning
HasMeaning-read None text read means = tt
HasMeaning-read (Some input) text read means = ap (λ (read : Result (List ℕ) Fault). is_ok read) (meaning-read input text read) ∙ means

pub IsInputFault-read : (fault : JobFault) (start : Option (List ℕ)) (text : List ℕ)
    → IfSome start (λ input. text ≡ take 1048577 input) → IsFaultOf text fault → IsInputFault start fault
IsInputFault-read Read start text read fails = tt
IsInputFault-read Write start text read fails = tt
IsInputFault-read Memory start text read fails = tt
IsInputFault-read (Text fault) None text read fails = tt
IsInputFault-read (Text fault) (Some input) text read fails = meaning-read input text read ∙ fails
IsInputFault-read Stalled start text read means = HasMeaning-read start text read means
IsInputFault-read (Refused why) start text read means = HasMeaning-read start text read means
IsInputFault-read NoThread start text read means = HasMeaning-read start text read means
IsInputFault-read Torn start text read means = HasMeaning-read start text read means

pub IsPlainFault-answer : (fault : JobFault) (start : Option (List ℕ)) (text : List ℕ)
    → IfSome start (λ input. text ≡ take 1048577 input) → IsAnswerFault text fault → IsPlainFault start fault
IsPlainFault-answer Read start text read fails = tt
IsPlainFault-answer Write start text read fails = tt
IsPlainFault-answer (Text fault) None text read fails = tt
IsPlainFault-answer (Text fault) (Some input) text read fails = meaning-read input text read ∙ fails
IsPlainFault-answer Stalled start text read fails = absurd fails
IsPlainFault-answer (Refused why) start text read fails = absurd fails
IsPlainFault-answer Memory start text read fails = tt
IsPlainFault-answer NoThread start text read fails = absurd fails
IsPlainFault-answer Torn start text read fails = absurd fails

pub WritesMeaning-answer : (start : Option (List ℕ)) (text lines : List ℕ) (old new : Option (List ℕ))
    → IfSome start (λ input. text ≡ take 1048577 input) → meaning text ≡ Ok lines → Appends old new lines
    → IfSome start (λ input. WritesMeaning input old new)
WritesMeaning-answer None text lines old new read means writes = tt
WritesMeaning-answer (Some input) text lines old new read means writes = (lines, meaning-read input text read ∙ means, writes)
