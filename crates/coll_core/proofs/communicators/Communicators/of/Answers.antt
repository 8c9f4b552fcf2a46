use Rattle.std.proofs.Common.{ap, ◌∙◌}
use Rattle.coll_core.specs.Communicators.{groups_seen}
use Rattle.coll_core.proofs.opening.Groups.{few_of}
use Rattle.coll_core.proofs.communicators.Communicators.of.Goals as goal

pub invariant_of-result : goal.invariant_of-result
invariant_of-result c =
    few_of c.args.config.now c.in_ok-groups.groups.items c.requires (c.in_ok-groups.ensures.groups ∙ ap groups_seen c.deref.ensures.value)
