-- What is read of a text decides which verdict is true of it.
use Rattle.std.proofs.Common.{◌≡◌, ℕ, List, length, take, Option, Some, None, Ok, sym, ap, subst, ◌∙◌, arith, inl, inr}
use Rattle.std.specs.Prelude.{IfSome}
use Rattle.std.proofs.lemmas.Bool.{cases_lt}
use Rattle.std.proofs.lemmas.List.{take_all, length-take}
use Rattle.coll_parser.specs.Histories.{History}
use Rattle.coll_script.specs.Jobs.{script_of}
use Rattle.coll_script.proofs.Reading.{script_of-long}
use Rattle.coll_diagnosis.specs.declared.explaining.ExplainOptions.{ExplainOptions}
use Rattle.coll_diagnosis.specs.declared.verdict.Verdict.{Verdict}
use Rattle.coll_diagnosis.specs.declared.cure.Move.{Move}
use Rattle.coll_diagnosis.specs.declared.explanation.ShownStall.{ShownStall}
use Rattle.coll_diagnosis.specs.Details.{IsFound, IsFoundOf}
use Rattle.coll_diagnosis.specs.Verdicts.{Means, MeansOf, IsTrueOf, IsTold}

-- a text has one script at most
pub means-script : (text : List ℕ) (script : History) (verdict : Verdict) → script_of text ≡ Ok script → Means verdict script → MeansOf text verdict
means-script text script verdict read means h is = subst (Means verdict) same means
  where
    same : script ≡ h
    same = let both : script_of text ≡ Ok script = read in let other : script_of text ≡ Ok h = is in cc

-- and what is found of its script is found of it
pub found-script : (text : List ℕ) (script : History) (verdict : Verdict) (shown : Option ShownStall) (cure : Option Move)
    → script_of text ≡ Ok script → IsFound script text verdict shown cure → IsFoundOf text verdict shown cure
found-script text script verdict shown cure read found h is = subst (λ (s : History). IsFound s text verdict shown cure) same found
  where
    same : script ≡ h
    same = let both : script_of text ≡ Ok script = read in let other : script_of text ≡ Ok h = is in cc

-- the first byte too many says as much as all of them
script-take : (input : List ℕ) → script_of (take 1048577 input) ≡ script_of input
script-take input = elim (cases_lt 1048577 (length input)) [
  | inl lt ↦ (let len = length-take 1048577 input in
      let one = script_of-long (take 1048577 input) (omega arith) in
      let other = script_of-long input (omega arith) in
      one ∙ sym other)
  | inr le ↦ ap script_of (take_all 1048577 input le)
]

-- what is found of them is found of the whole, which is no longer where it has a script
found-read : (input : List ℕ) (verdict : Verdict) (shown : Option ShownStall) (cure : Option Move)
    → IsFoundOf (take 1048577 input) verdict shown cure → IsFoundOf input verdict shown cure
found-read input verdict shown cure found h has = elim (cases_lt 1048577 (length input)) [
  | inl lt ↦ absurd (let long = script_of-long input (omega arith) in cc)
  | inr le ↦ subst (λ (text : List ℕ). IsFoundOf text verdict shown cure) (take_all 1048577 input le) found h has
]

told-read : (input : List ℕ) (verdict : Verdict) (status : ℕ) (lines : List ℕ) → IsTold (take 1048577 input) verdict status lines
    → IsTold input verdict status lines
told-read input verdict status lines told = (told.0, told.1, told.2, found-read input verdict told.0 told.1 told.3)

pub true-read : (start : Option (List ℕ)) (text : List ℕ) (options : ExplainOptions) (status : ℕ) (lines : List ℕ)
    → IfSome start (λ input. text ≡ take 1048577 input) → IsTrueOf text options status lines
    → IfSome start (λ input. IsTrueOf input options status lines)
true-read None text options status lines read is = tt
true-read (Some input) text options status lines read is = record {
  says = is.says;
  means = λ h has. is.means h (ap script_of read ∙ (script-take input ∙ has));
  told = λ json. told-read input is.says.verdict status lines (subst (λ (t : List ℕ). IsTold t is.says.verdict status lines) read (is.told json));
}
