use Rattle.coll_report.specs.Traces.{completes_by}
use Rattle.coll_traced.proofs.Counting.{none_counted}
use Rattle.coll_traced.proofs.balance.count_completed.Goals as goal

pub loop-entry-init : goal.loop-entry-init
loop-entry-init c = none_counted completes_by
