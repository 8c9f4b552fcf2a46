use Rattle.std.proofs.Common.{ap, sym}
use Rattle.coll_traced.proofs.Keepers.{opened_kept}
use Rattle.coll_traced.proofs.Stalling.{told-none}
use Rattle.coll_traced.proofs.traced_core.TracedCore.open.Goals as goal

pub invariant_of-result : goal.invariant_of-result
invariant_of-result g c = (
  opened_kept _ c.in_ok-core.core c.new.result.entries c.new.result.reserved c.args.config c.in_ok-copy.copy
      c.requires.setting c.in_ok-check.ensures.ok c.in_ok-copy.ensures.config c.in_ok-core.ensures.setting
      c.in_ok-core.ensures.idle c.new.ensures.entries c.new.ensures.reserved,
  told-none _ c.args.config.ranks _ _ c.in_ok-waits.ensures.waits c.in_ok-waits.ensures.marks (sym (ap (λ s. s.ranks) c.requires.setting)),
)
