use Rattle.std.proofs.Common.{◌≡◌, ◌∙◌, ap, map, sym, take}
use Rattle.std.proofs.lemmas.List.{take_all, take-map}
use Rattle.coll_faults.specs.Drafts.{line_bytes}
use Rattle.coll_faults.proofs.draft.MendedText.first_lines.Goals as goal

pub returns : goal.returns
returns c =
    c.loop-line.invariant
    ∙ (ap (map line_bytes) (take_all c.loop-line.line-index c.first_of-first.result.now c.loop-line-test.false)
    ∙ (ap (map line_bytes) (c.first_of-first.ensures ∙ ap (take c.args.last) c.deref.ensures.value)
    ∙ sym (take-map line_bytes c.args.last c.args.self.now.lines.items)))
