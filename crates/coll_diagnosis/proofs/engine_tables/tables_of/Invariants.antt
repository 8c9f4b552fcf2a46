use Rattle.coll_verdict.specs.Code.{AreAllTrue}
use Rattle.coll_plans.specs.Hearings.{hears_here}
use Rattle.coll_diagnosis.proofs.engine_tables.tables_of.Given as goal

abbrev pub invariant-loop-collective : goal.invariant-loop-collective
invariant-loop-collective l = AreAllTrue hears_here l.tables.items
