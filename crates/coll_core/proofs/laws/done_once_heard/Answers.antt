use Rattle.coll_core.specs.Cores.{tables}
use Rattle.coll_refinement.proofs.tables.Finished.{quiet_has_heard, done_has_heard}
use Rattle.coll_core.proofs.laws.done_once_heard.Goals as goal

pub returns : goal.returns
returns c = record {
  once = λ quiet. quiet_has_heard (tables c.args.core.now) c.check.ensures (c.check_quiet.ensures quiet);
  not_before = done_has_heard (tables c.args.core.now) c.check.ensures;
}
