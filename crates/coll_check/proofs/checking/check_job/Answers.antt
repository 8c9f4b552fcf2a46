use Rattle.std.proofs.Common.{◌≡◌, ℕ, List, take, subst, sym, ◌∙◌}
use Rattle.std.specs.Prelude.{IfSome}
use Rattle.std.proofs.lemmas.Result.{err_from_is_err_and}
use Rattle.coll_check.specs.Checked.{WritesLines}
use Rattle.coll_check.proofs.Answering.{IsCheckStatus-read, IsCheckFault-read, Says-read}
use Rattle.coll_check.proofs.checking.check_job.Goals as goal

pub returns-in_err-lines-clause-faults : goal.returns-in_err-lines-clause-faults
returns-in_err-lines-clause-faults g c =
    let p = err_from_is_err_and c.from_residual-in_err-lines.result c.from_residual-in_err-lines.ensures.1 in
    let start = g.R.Read.remaining c.args.reader.now.reader.now in
    let read = subst (λ (text : List ℕ). IfSome start (λ input. text ≡ take 1048577 input)) (sym c.deref.ensures.value) c.in_ok-text.ensures.text in
    rw (p.1, p.2) (IsCheckFault-read c.in_err-lines.field-0.0 start c.deref.result.now read c.in_err-lines.ensures.faults)

pub returns-clause-status : goal.returns-clause-status
returns-clause-status g c =
    let start = g.R.Read.remaining c.args.reader.now.reader.now in
    let read = subst (λ (text : List ℕ). IfSome start (λ input. text ≡ take 1048577 input)) (sym c.deref.ensures.value) c.in_ok-text.ensures.text in
    IsCheckStatus-read start c.deref.result.now c.in_ok-lines.status read c.in_ok-lines.ensures.status

pub returns-clause-said : goal.returns-clause-said
returns-clause-said g c =
    let start = g.R.Read.remaining c.args.reader.now.reader.now in
    let read = subst (λ (text : List ℕ). IfSome start (λ input. text ≡ take 1048577 input)) (sym c.deref.ensures.value) c.in_ok-text.ensures.text in
    let says = Says-read c.args.form c.args.name.now start c.deref.result.now c.in_ok-lines.status _ read c.in_ok-lines.ensures.said in
    let output = g.W.Write.contents c.args.output.now.stream.now in
    let errors = g.E.Write.contents c.args.errors.now.stream.now in
    let writes =
    subst
    (λ (bytes : List ℕ). WritesLines c.args.form output (g.W.Write.contents c.write_report.new.output.stream.now) errors
    (g.E.Write.contents c.write_report.new.errors.stream.now) bytes)
    (c.as_bytes.ensures.value ∙ c.as_str.ensures.value)
    c.in_ok-write_report.ensures.ok in
    (_, says, writes)
