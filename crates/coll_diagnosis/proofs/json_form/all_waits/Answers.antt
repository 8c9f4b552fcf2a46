use Rattle.std.proofs.Common.{◌≡◌, ◌+◌, ◌++◌, ℕ, List, take, ap, sym, subst, ◌∙◌}
use Rattle.std.specs.String.{string_bytes}
use Rattle.coll_diagnosis.specs.Details.{AreWaits}
use Rattle.coll_diagnosis.proofs.Telling.{waits-step}
use Rattle.coll_diagnosis.proofs.json_form.all_waits.Goals as goal

pub loop-stuck-preserved : goal.loop-stuck-preserved
loop-stuck-preserved c =
    let i = c.loop-stuck.stuck-index in
    let next = c.stuck-item.result in
    let bytes = string_bytes c.loop-stuck.lines in
    let pushed : string_bytes c.push_str.new.self ≡ bytes ++ string_bytes c.in_ok-line.line =
    c.in_ok-push_str.ensures.bytes ∙ ap (λ (line : List ℕ). bytes ++ line) c.as_str.ensures.value in
    subst (AreWaits (take (i + 1) c.args.ranks.now)) (sym pushed)
    (waits-step c.args.ranks.now i next bytes (string_bytes c.in_ok-line.line) c.loop-stuck-test.true c.stuck-item.is
    c.loop-stuck.invariant c.in_ok-line.ensures)
