use Rattle.coll_traced.specs.Closings.{begins_by}
use Rattle.coll_traced.proofs.Counting.{none_counted}
use Rattle.coll_traced.proofs.balance.count_begun.Goals as goal

pub loop-entry-init : goal.loop-entry-init
loop-entry-init c = none_counted begins_by
