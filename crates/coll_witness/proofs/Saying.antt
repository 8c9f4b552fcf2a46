-- An explanation says a verdict on all runs, or what was found of some.
use Rattle.std.proofs.Common.{◌≡◌, ℕ, List, [], length, take, Option, Some, None, Result, Ok, Err, refl, sym, ap, subst, ◌∙◌, arith, inl, inr}
use Rattle.std.specs.Prelude.{IfOk, IfSome}
use Rattle.std.proofs.lemmas.Bool.{cases_lt}
use Rattle.std.proofs.lemmas.List.{append-nil, take_all, length-take}
use Rattle.coll_parser.specs.Histories.{History}
use Rattle.coll_script.specs.Jobs.{script_of}
use Rattle.coll_script.proofs.Reading.{script_of-long}
use Rattle.coll_diagnosis.specs.declared.explaining.ExplainOptions.{ExplainOptions}
use Rattle.coll_diagnosis.specs.declared.verdict.Verdict.{Verdict}
use Rattle.coll_diagnosis.specs.Verdicts as verdicts
use Rattle.coll_diagnosis.proofs.Meaning as meaning
use Rattle.coll_witness.specs.declared.finding.Finding.{Finding}
use Rattle.coll_witness.specs.Findings.{IsTrueOf, IsTrueRun, Means, Says, ShowsRun}

-- ---- what is true of a text is said

pub says-of : (text : List ℕ) (options : ExplainOptions) (status : ℕ) (lines : List ℕ) → IsTrueOf text options status lines → Says options status lines
says-of text options status lines is = elim is.of [ inl all ↦ record { of = inl all.says } | inr some ↦ record { of = inr some.says } ]

-- ---- an explanation by all runs

pub said-of-all : {X E : Type 0} (status : X → ℕ) (lines : X → List ℕ) (options : ExplainOptions) (r : Result X E)
    → IfOk r (λ x. verdicts.Says options (status x) (lines x)) → IfOk r (λ x. Says options (status x) (lines x))
said-of-all status lines options (Ok x) says = record { of = inl says }
said-of-all status lines options (Err e) says = tt

pub true-of-all : {X E : Type 0} (status : X → ℕ) (lines : X → List ℕ) (text : List ℕ) (options : ExplainOptions) (r : Result X E)
    → IfOk r (λ x. verdicts.IsTrueOf text options (status x) (lines x)) → IfOk r (λ x. IsTrueOf text options (status x) (lines x))
true-of-all status lines text options (Ok x) is = record { of = inl is }
true-of-all status lines text options (Err e) is = tt

-- ---- one by some

-- the words alone, which begin with themselves
pub begins-itself : (front head : List ℕ) → head ≡ front → verdicts.Begins front head
begins-itself front head is = ([], is ∙ sym (append-nil front))

-- a text has one script at most
means-script : (text : List ℕ) (script : History) (finding : Finding) → script_of text ≡ Ok script → Means finding script
    → (h : History) → script_of text ≡ Ok h → Means finding h
means-script text script finding read means h is = subst (Means finding) same means
  where
    same : script ≡ h
    same = let both : script_of text ≡ Ok script = read in let other : script_of text ≡ Ok h = is in cc

true-run : (text : List ℕ) (script : History) (options : ExplainOptions) (lines : List ℕ) → script_of text ≡ Ok script → ShowsRun script options lines
    → IsTrueRun text options 6 lines
true-run text script options lines read shows = record {
  says = record { finding = shows.finding; status_is = refl; says = shows.says };
  means = means-script text script shows.finding read shows.means;
}

-- what is shown of the script of a text is true of the text
found-some : {X : Type 0} (lines : X → List ℕ) (text : List ℕ) (script : History) (options : ExplainOptions) (found : Option X) → script_of text ≡ Ok script
    → IfSome found (λ x. ShowsRun script options (lines x)) → IfSome found (λ x. IsTrueRun text options 6 (lines x))
found-some lines text script options None read shows = tt
found-some lines text script options (Some x) read shows = true-run text script options (lines x) read shows

pub found-run : {X E : Type 0} (lines : X → List ℕ) (text : List ℕ) (script : History) (options : ExplainOptions) (r : Result (Option X) E)
    → script_of text ≡ Ok script → IfOk r (λ found. IfSome found (λ x. ShowsRun script options (lines x)))
    → IfOk r (λ found. IfSome found (λ x. IsTrueRun text options 6 (lines x)))
found-run lines text script options (Ok found) read shows = found-some lines text script options found read shows
found-run lines text script options (Err e) read shows = tt

-- ---- a verdict by cases

-- what is shown of the script of a text is true of the text
pub verdict-of-script : {E : Type 0} (text : List ℕ) (script : History) (r : Result (Option Verdict) E) → script_of text ≡ Ok script
    → IfOk r (λ found. IfSome found (λ verdict. verdicts.Means verdict script)) → IfOk r (λ found. IfSome found (verdicts.MeansOf text))
verdict-of-script text script (Ok (Some verdict)) read means = meaning.means-script text script verdict read means
verdict-of-script text script (Ok None) read means = tt
verdict-of-script text script (Err e) read means = tt

-- ---- what was read of a text

-- the first byte too many says as much as all of them
script-take : (input : List ℕ) → script_of (take 1048577 input) ≡ script_of input
script-take input = elim (cases_lt 1048577 (length input)) [
  | inl lt ↦ (let len = length-take 1048577 input in
      let one = script_of-long (take 1048577 input) (omega arith) in
      let other = script_of-long input (omega arith) in
      one ∙ sym other)
  | inr le ↦ ap script_of (take_all 1048577 input le)
]

-- what is true of what was read is true of the whole
pub true-read : (start : Option (List ℕ)) (text : List ℕ) (options : ExplainOptions) (status : ℕ) (lines : List ℕ)
    → IfSome start (λ input. text ≡ take 1048577 input) → IsTrueOf text options status lines
    → IfSome start (λ input. IsTrueOf input options status lines)
true-read None text options status lines read is = tt
true-read (Some input) text options status lines read is = elim is.of [
  | inl all ↦ record { of = inl (meaning.true-read (Some input) text options status lines read all) }
  | inr some ↦ record {
    of = inr (record { says = some.says; means = λ h has. some.means h (ap script_of read ∙ (script-take input ∙ has)) });
  }
]
