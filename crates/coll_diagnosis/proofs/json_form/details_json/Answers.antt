use Rattle.std.proofs.Common.{◌∙◌}
use Rattle.coll_diagnosis.proofs.Telling.{tells}
use Rattle.coll_diagnosis.proofs.json_form.details_json.Goals as goal

pub returns : goal.returns
returns c =
    let e = c.args.explanation.now in
    tells e.verdict e.shown e.cure c.headline-head.result.now c.as_str.result.now c.as_str-2.result.now _ c.headline-head.ensures
    (c.as_str.ensures.value ∙ c.in_ok-standing.ensures) (c.as_str-2.ensures.value ∙ c.in_ok-moves.ensures) c.in_ok-details.ensures
