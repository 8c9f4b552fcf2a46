use Rattle.coll_plans.specs.Hearings.{hears_here}
use Rattle.coll_verdict.specs.Rows.{crossed}
use Rattle.coll_deadlock.proofs.ports.crossed_comes_to_no_end.Goals as goal

pub returns : goal.returns
returns c = λ t s same end to. c.always_here_is_no_end.ensures crossed t s (c.crossed_barriers_stall_by.ensures hears_here) same to end
