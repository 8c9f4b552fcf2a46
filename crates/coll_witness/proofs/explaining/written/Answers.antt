use Rattle.std.proofs.Common.{sym, subst}
use Rattle.std.specs.Prelude.{IfOk}
use Rattle.std.specs.String.{string_bytes}
use Rattle.coll_witness.specs.Findings.{SaysIn}
use Rattle.coll_witness.proofs.explaining.written.Goals as goal

pub returns-in-Text : goal.returns-in-Text
returns-in-Text c =
    subst (λ form. IfOk c.text_form.result (λ lines. SaysIn form c.args.finding (string_bytes lines))) (sym c.in-Text.is) c.text_form.ensures

pub returns-in-Json : goal.returns-in-Json
returns-in-Json c =
    subst (λ form. IfOk c.json_form.result (λ lines. SaysIn form c.args.finding (string_bytes lines))) (sym c.in-Json.is) c.json_form.ensures
