use Rattle.coll_core.proofs.opening.Groups.{are_groups}
use Rattle.coll_deadlock.proofs.engine.configs_are_groups.Goals as goal

pub returns : goal.returns
returns c = λ config fits comm. are_groups config.ranks config.groups.items fits.groups.2 comm
