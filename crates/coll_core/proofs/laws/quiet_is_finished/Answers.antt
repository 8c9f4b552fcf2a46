use Rattle.coll_core.specs.Cores.{tables}
use Rattle.coll_refinement.proofs.tables.Finished.{quiet_is_finished as finished}
use Rattle.coll_core.proofs.laws.quiet_is_finished.Goals as goal

pub returns : goal.returns
returns c quiet = finished (tables c.args.core.now) c.check.ensures (c.check_quiet.ensures quiet)
