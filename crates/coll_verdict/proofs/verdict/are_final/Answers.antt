use Rattle.std.proofs.Common.{◌≡◌, true, sym, ap, ◌∙◌, arith}
use Rattle.coll_verdict.specs.Checking.{all_issue}
use Rattle.coll_verdict.proofs.Checked.{checked}
use Rattle.coll_verdict.proofs.verdict.are_final.Goals as goal

pub returns-then-one_is_short : goal.returns-then-one_is_short
returns-then-one_is_short c = λ yes.
    let all : c.all_issue.result ≡ true = grind arith in
    let given : all_issue c.args.library.now c.args.groups.now c.args.history.now.commands ≡ true =
    ap (all_issue c.args.library.now c.args.groups.now) (sym c.commands.ensures.commands) ∙ (sym c.all_issue.ensures ∙ all) in
    checked c.args.library.now c.args.history.now c.args.ranks.now c.args.groups.now c.requires.stood c.requires.same given
    (sym c.one_is_short.ensures ∙ c.if-one_is_short.true) (sym c.all_stay.ensures ∙ yes)
