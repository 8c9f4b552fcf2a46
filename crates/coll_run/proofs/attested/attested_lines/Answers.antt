use Rattle.coll_run.specs.Runs.{IsRun}
use Rattle.coll_run.specs.Commands.{commands_by}
use Rattle.coll_run.proofs.Meant.{lacks_nothing, lines_mean}
use Rattle.coll_run.proofs.Telling.{follows}
use Rattle.coll_run.proofs.Ending.{always-ok, meant-ok, weaker-err}
use Rattle.coll_run.proofs.attested.attested_lines.Goals as goal

pub returns-clause-tells : goal.returns-clause-tells
returns-clause-tells c =
    let h = c.args.script.now in
    let run : IsRun h c.args.report.now = c.in_ok-is_run.ensures.0 c.if-not-branch.false in
    always-ok c.told_by.result (c.tells.ensures (commands_by h) (follows h c.args.report.now run))

pub returns-clause-meaning : goal.returns-clause-meaning
returns-clause-meaning c =
    let h = c.args.script.now in
    let run : IsRun h c.args.report.now = c.in_ok-is_run.ensures.0 c.if-not-branch.false in
    meant-ok c.told_by.result _ _ c.told_by.ensures.told c.told_by.ensures.sound
    (λ sound. lines_mean h c.args.report.now sound run
    (c.tells.ensures (commands_by h) (follows h c.args.report.now run)))

pub returns-clause-torn : goal.returns-clause-torn
returns-clause-torn c =
    let h = c.args.script.now in
    let r = c.args.report.now in
    weaker-err _ _
    (λ _ lacks is run. let l = lacks is in
    lacks_nothing h r l.0 run (c.tells.ensures (commands_by h) (follows h r run)) l.1)
    c.told_by.result c.told_by.ensures.torn
