use Rattle.std.proofs.Common.{ap, subst, sym}
use Rattle.coll_core.specs.Configs.{setting_by}
use Rattle.coll_core.specs.Cores.{seen}
use Rattle.coll_report.specs.Told.{IsIdle}
use Rattle.coll_traced.specs.Traced.{Traced}
use Rattle.coll_traced.proofs.Closings.{ends_with}
use Rattle.coll_traced.proofs.traced_core.TracedCore.take_report.Goals as goal

pub new-requires : goal.new-requires
new-requires g c =
    ends_with _ _ c.self.invariant.0 (subst (λ (h : Traced). IsIdle (seen h.core).state) (sym c.self.view_is) c.requires.idle)
    (ap setting_by c.replace-config.ensures.value) c.take-entries.ensures.entries
    c.replace-core.result c.replace-core.ensures.value
