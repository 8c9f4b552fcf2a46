use Rattle.std.proofs.Common.{◌≡◌, ◌∙◌, ℕ, List, take, subst, sym}
use Rattle.std.specs.Prelude.{IfSome}
use Rattle.std.proofs.lemmas.Result.{err_from_is_err_and}
use Rattle.coll_script.proofs.Answering.{HasMeaning-read, IsInputFault-read}
use Rattle.coll_diagnosis.specs.Verdicts.{IsTrueOf}
use Rattle.coll_diagnosis.proofs.Meaning.{true-read}
use Rattle.coll_diagnosis.proofs.explaining.explain_job.Goals as goal

pub returns-in_err-explained-clause-faults : goal.returns-in_err-explained-clause-faults
returns-in_err-explained-clause-faults g c =
    let p = err_from_is_err_and c.from_residual-in_err-explained.result c.from_residual-in_err-explained.ensures.1 in
    let start = g.R.Read.remaining c.args.reader.now.reader.now in
    let read = subst (λ (text : List ℕ). IfSome start (λ input. text ≡ take 1048577 input)) (sym c.deref.ensures.value) c.in_ok-text.ensures.text in
    rw (p.1, p.2) (IsInputFault-read c.in_err-explained.field-0.0 start c.deref.result.now read c.in_err-explained.ensures.faults)

pub returns-clause-meaning : goal.returns-clause-meaning
returns-clause-meaning g c =
    let start = g.R.Read.remaining c.args.reader.now.reader.now in
    let read = subst (λ (text : List ℕ). IfSome start (λ input. text ≡ take 1048577 input)) (sym c.deref.ensures.value) c.in_ok-text.ensures.text in
    HasMeaning-read start c.deref.result.now read c.in_ok-explained.ensures.meaning

pub returns-clause-verdict : goal.returns-clause-verdict
returns-clause-verdict g c =
    let start = g.R.Read.remaining c.args.reader.now.reader.now in
    let read = subst (λ (text : List ℕ). IfSome start (λ input. text ≡ take 1048577 input)) (sym c.deref.ensures.value) c.in_ok-text.ensures.text in
    let is = subst (λ (lines : List ℕ). IsTrueOf c.deref.result.now c.args.options c.in_ok-explained.explained.status lines)
    (sym (c.as_bytes.ensures.value ∙ c.as_str.ensures.value)) c.in_ok-explained.ensures.verdict in (
      c.as_bytes.result.now,
      true-read start c.deref.result.now c.args.options c.in_ok-explained.explained.status c.as_bytes.result.now read is,
      c.in_ok-write_lines.ensures.ok,
    )
