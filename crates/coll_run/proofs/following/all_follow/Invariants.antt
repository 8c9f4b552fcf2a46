use Rattle.coll_run.specs.Runs.{AllFollow}
use Rattle.coll_run.proofs.following.all_follow.Given as goal

abbrev pub invariant-loop-rank : goal.invariant-loop-rank
invariant-loop-rank l = AllFollow l.rank l.script l.report
