use Rattle.coll_verdict.specs.Code.{AreTrue}
use Rattle.coll_plans.specs.Hearings.{hears_here}
use Rattle.coll_diagnosis.proofs.HearingRounds.{each_more}
use Rattle.coll_diagnosis.proofs.engine_tables.tables_of.Goals as goal

pub loop-collective-preserved : goal.loop-collective-preserved
loop-collective-preserved c =
    λ i. rw c.in_ok-push.ensures.items
    (each_more (λ r. AreTrue hears_here) c.loop-collective.tables.items c.in_ok-table_of.field-0 c.loop-collective.invariant c.in_ok-table_of.ensures i)
