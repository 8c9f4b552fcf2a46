-- what the check has shown
use Rattle.coll_kinds.specs.Checks.{broken}
use Rattle.coll_plans.proofs.Plans.{unbroken}
use Rattle.cases_core.proofs.plans.trees.build.Goals as goal

pub reduce-requires-clause-checked : goal.reduce-requires-clause-checked
reduce-requires-clause-checked c = unbroken (broken c.args.sig c.args.n) c.in_ok-check.field-0 c.in_ok-check.ensures

pub allreduce-requires-clause-checked : goal.allreduce-requires-clause-checked
allreduce-requires-clause-checked c = unbroken (broken c.args.sig c.args.n) c.in_ok-check.field-0 c.in_ok-check.ensures
