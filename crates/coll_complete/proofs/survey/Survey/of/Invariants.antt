use Rattle.std.proofs.Common.{drop}
use Rattle.coll_complete.proofs.Surveys.{Surveyed}
use Rattle.coll_complete.proofs.survey.Survey.of.Given as goal

abbrev pub invariant-loop-position : goal.invariant-loop-position
invariant-loop-position g l =
    Surveyed (g.C.Requests.setting l.core) (g.C.Requests.machine l.core) l.rank l.requests (drop l.position l.requests) l.position l.survey
