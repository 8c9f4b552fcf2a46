use Rattle.std.proofs.Common.{sym, subst}
use Rattle.coll_diagnosis.specs.Details.{TellDetails}
use Rattle.coll_diagnosis.proofs.json_form.explained_json.Goals as goal

pub returns-clause-told : goal.returns-clause-told
returns-clause-told c =
    let e = c.args.explanation.now in
    (c.as_str-2.result.now, c.in_ok-line.ensures, subst (TellDetails e.verdict e.shown e.cure) (sym c.as_str-2.ensures.value) c.in_ok-details.ensures)
