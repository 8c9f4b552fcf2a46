use Rattle.std.proofs.Common.{◌≡◌, Result, length, subst, sym}
use Rattle.std.proofs.lemmas.Result.{err_from_is_err_and}
use Rattle.coll_parser.specs.declared.fault.Fault.{Fault}
use Rattle.coll_parser.specs.Code.{GivesText}
use Rattle.coll_parser.specs.Cutting.{lines_of}
use Rattle.coll_parser.specs.Histories.{History}
use Rattle.coll_script.specs.Jobs.{script_of, completed}
use Rattle.coll_script.proofs.Reading.{script_of-long, script_of-judged, FailsText-script_of}
use Rattle.coll_script.proofs.script.Script.read.Goals as goal

pub returns-then-text-gt-MAX_TEXT-clause-read : goal.returns-then-text-gt-MAX_TEXT-clause-read
returns-then-text-gt-MAX_TEXT-clause-read c = rw c.fault.ensures (script_of-long c.args.text.now c.if-text-gt-MAX_TEXT.true)

pub returns-in_err-history-clause-read : goal.returns-in_err-history-clause-read
returns-in_err-history-clause-read c =
    let p = err_from_is_err_and c.from_residual.result c.from_residual.ensures.1 in
    rw (p.1, p.2) (FailsText-script_of c.in_err-history.field-0.0 c.args.text.now c.if-text-gt-MAX_TEXT.false c.in_err-history.ensures)

pub returns-clause-read : goal.returns-clause-read
returns-clause-read c =
    let told : script_of c.args.text.now ≡ completed (length (lines_of c.args.text.now)) c.in_ok-history.history =
    script_of-judged c.args.text.now _ c.if-text-gt-MAX_TEXT.false c.in_ok-history.ensures in
    subst (λ (read : Result History Fault). GivesText (λ (script : History). script) c.completed.result read) (sym told) c.completed.ensures
