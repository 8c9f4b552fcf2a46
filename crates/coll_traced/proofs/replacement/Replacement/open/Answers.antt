use Rattle.std.proofs.Common.{[], refl, ◌∙◌}
use Rattle.coll_traced.proofs.Keepers.{opened_kept}
use Rattle.coll_traced.proofs.replacement.Replacement.open.Goals as goal

pub invariant_of-result : goal.invariant_of-result
invariant_of-result c =
    opened_kept _ c.in-Ok.core [] 0 c.args.config.now c.in_ok-copy.copy c.in_ok-copy.ensures.config
    c.in_ok-check.ensures.ok c.in_ok-copy.ensures.config (c.in-Ok.ensures.setting ∙ c.in_ok-own.ensures.config) c.in-Ok.ensures.idle
    refl refl
