use Rattle.std.specs.Prelude.{◌==◌}
use Rattle.coll_report.specs.Traces.{caller}
use Rattle.coll_traced.proofs.Counting.{none_counted}
use Rattle.coll_traced.proofs.balance.count_made.Goals as goal

pub loop-entry-init : goal.loop-entry-init
loop-entry-init c = none_counted (λ rank e. caller e == rank)
