use Rattle.std.proofs.Common.{◌≡◌, ℕ, List, take, ap, subst, sym, ◌∙◌}
use Rattle.std.specs.Prelude.{Ok, IfSome}
use Rattle.std.proofs.lemmas.Result.{err_from_is_err_and, on_ok_weaker}
use Rattle.coll_script.proofs.Answering.{IsInputFault-read, WritesMeaning-answer}
use Rattle.coll_run.proofs.threaded.threaded_job.Goals as goal

pub returns-in_err-told-clause-faults : goal.returns-in_err-told-clause-faults
returns-in_err-told-clause-faults g c =
    let p = err_from_is_err_and c.from_residual-in_err-told.result c.from_residual-in_err-told.ensures.1 in
    let start = g.R.Read.remaining c.args.reader.now.reader.now in
    let read = subst (λ (text : List ℕ). IfSome start (λ input. text ≡ take 1048577 input)) (sym c.deref.ensures.value) c.in_ok-text.ensures.text in
    rw (p.1, p.2) (IsInputFault-read c.in_err-told.field-0.0 start c.deref.result.now read c.in_err-told.ensures.faults)

pub returns-clause-ok : goal.returns-clause-ok
returns-clause-ok g c =
    let start = g.R.Read.remaining c.args.reader.now.reader.now in
    let read = subst (λ (text : List ℕ). IfSome start (λ input. text ≡ take 1048577 input)) (sym c.deref.ensures.value) c.in_ok-text.ensures.text in
    let means = c.in_ok-told.ensures.meaning ∙ ap (λ (lines : List ℕ). Ok lines) (sym c.deref-2.ensures.value) in
    on_ok_weaker c.write_lines.result (WritesMeaning-answer start c.deref.result.now c.deref-2.result.now _ _ read means) c.write_lines.ensures.ok
