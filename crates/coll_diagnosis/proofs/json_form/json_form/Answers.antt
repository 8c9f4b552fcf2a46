use Rattle.std.proofs.Common.{◌++◌, ◌∙◌, ℕ, List, ap}
use Rattle.std.specs.String.{string_bytes}
use Rattle.coll_diagnosis.proofs.json_form.json_form.Goals as goal

pub returns-clause-told : goal.returns-clause-told
returns-clause-told c =
    let told = c.in_ok-end.ensures.told in
    let out = string_bytes c.in_ok-out.out in (
      out,
      told.0,
      c.in_ok-push_str.ensures.bytes ∙ ap (λ (end : List ℕ). out ++ end) (c.as_str.ensures.value ∙ told.1),
      told.2,
      c.in_ok-out.ensures,
    )
