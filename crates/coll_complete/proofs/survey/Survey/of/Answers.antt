use Rattle.std.proofs.Common.{arith}
use Rattle.coll_complete.proofs.Surveys.{surveyed_done}
use Rattle.coll_complete.proofs.survey.Survey.of.Goals as goal

pub returns-clause-done : goal.returns-clause-done
returns-clause-done g c =
    surveyed_done (g.C.Requests.setting c.args.core.now) (g.C.Requests.machine c.args.core.now) c.args.rank c.args.requests.now
    c.loop-position.position c.loop-position.survey
    c.loop-position.invariant (omega arith)
