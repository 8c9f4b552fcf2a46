use Rattle.std.proofs.Common.{◌≡◌, ◌∙◌}
use Rattle.std.specs.String.{string_bytes}
use Rattle.coll_diagnosis.specs.declared.explaining.Form.TheVariants.{Text, Json, Dot}
use Rattle.coll_diagnosis.specs.Verdicts.{EndsExplained, EndsTelling}
use Rattle.coll_diagnosis.proofs.Telling.{json_written, other_written}
use Rattle.coll_diagnosis.proofs.explaining.written.Goals as goal
use Rattle.coll_diagnosis.proofs.explaining.written.Goals.{in-Text, in-Json, in-Dot}

pub returns-clause-object : goal.returns-clause-object
returns-clause-object c =
    let e = c.args.explanation.now in
    elim c.match-options.branch [
      | in-Text w ↦ other_written (λ lines. EndsExplained e.verdict c.args.status (string_bytes lines)) c.ok_or.result
          (λ (json : c.args.options.form ≡ Json). let text : c.args.options.form ≡ Text = w.in-Text.is in cc)
      | in-Json w ↦ json_written (c.args.options.form ≡ Json) (λ lines. EndsExplained e.verdict c.args.status (string_bytes lines))
          w.json_form.result c.match-options.lines _ c.ok_or.result (w.lines-is ∙ w.ok-lines-in-Json.ensures.value)
          c.ok_or.ensures.value w.json_form.ensures.object
      | in-Dot w ↦ other_written (λ lines. EndsExplained e.verdict c.args.status (string_bytes lines)) c.ok_or.result
          (λ (json : c.args.options.form ≡ Json). let dot : c.args.options.form ≡ Dot = w.in-Dot.is in cc)
    ]

pub returns-clause-told : goal.returns-clause-told
returns-clause-told c =
    let e = c.args.explanation.now in
    elim c.match-options.branch [
      | in-Text w ↦ other_written (λ lines. EndsTelling e.verdict c.args.status e.shown e.cure (string_bytes lines)) c.ok_or.result
          (λ (json : c.args.options.form ≡ Json). let text : c.args.options.form ≡ Text = w.in-Text.is in cc)
      | in-Json w ↦ json_written (c.args.options.form ≡ Json) (λ lines. EndsTelling e.verdict c.args.status e.shown e.cure (string_bytes lines))
          w.json_form.result c.match-options.lines _ c.ok_or.result (w.lines-is ∙ w.ok-lines-in-Json.ensures.value)
          c.ok_or.ensures.value w.json_form.ensures.told
      | in-Dot w ↦ other_written (λ lines. EndsTelling e.verdict c.args.status e.shown e.cure (string_bytes lines)) c.ok_or.result
          (λ (json : c.args.options.form ≡ Json). let dot : c.args.options.form ≡ Dot = w.in-Dot.is in cc)
    ]
