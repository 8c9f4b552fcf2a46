use Rattle.std.proofs.Common.{◌++◌, ◌∙◌, ℕ, List, ap}
use Rattle.std.specs.String.{string_bytes}
use Rattle.coll_witness.proofs.explaining.json_form.Goals as goal

pub returns : goal.returns
returns c =
    let out = string_bytes c.in_ok-lines.lines in (
      out,
      c.in_one_line.result.now,
      c.in_ok-push_str.ensures.bytes ∙ ap (λ (end : List ℕ). out ++ end) (c.as_str.ensures.value ∙ c.in_ok-last.ensures),
      c.in_one_line.ensures,
    )
