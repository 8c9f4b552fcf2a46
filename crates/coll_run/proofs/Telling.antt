-- What a run of a job reports.
use Rattle.std.proofs.Common.{◌≤◌, ◌<◌, List, [], sym, subst}
use Rattle.std.specs.Prelude.{unwrap_or}
use Rattle.coll_parser.specs.Histories.{History}
use Rattle.coll_machine.specs.Reports.{posts_of}
use Rattle.coll_report.specs.Scripts.{Command, Says}
use Rattle.coll_report.specs.Reports.{Closed}
use Rattle.coll_report.specs.Scripted.{Follows}
use Rattle.coll_report.proofs.Telling.{attested_tells}
use Rattle.coll_run.specs.Commands.{commands_by}
use Rattle.coll_run.specs.Laws.{RunsTell}
use Rattle.coll_run.specs.Runs.{IsRun}
use Rattle.coll_run.proofs.Asking.{commands_by-rank, commands_by-stranger}

pub follows : (h : History) (r : Closed) → IsRun h r → Follows r (commands_by h)
follows h r run = record {
  says = λ rank lt. let low : rank < unwrap_or h.ranks 0 = subst (λ n. rank < n) run.ranks lt in
      subst (λ (cs : List Command). Says [] cs (posts_of rank r.entries)) (sym (commands_by-rank h rank low))
      (run.posts rank low);
  others = λ rank le. commands_by-stranger h rank (subst (λ n. n ≤ rank) run.ranks le);
}

pub runs_tell : RunsTell
runs_tell h r closed run = attested_tells r (commands_by h) closed (follows h r run)
