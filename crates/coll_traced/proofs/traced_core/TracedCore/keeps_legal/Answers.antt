use Rattle.std.proofs.Common.{◌≡◌, subst, ◌∙◌}
use Rattle.coll_machine.specs.Traces.{LegalTrace}
use Rattle.coll_core.specs.Cores.{seen, setting}
use Rattle.coll_traced.specs.Traced.{Traced}
use Rattle.coll_traced.proofs.Keepers.{legal_kept}
use Rattle.coll_traced.proofs.traced_core.TracedCore.keeps_legal.Goals as goal

pub returns-clause-setting : goal.returns-clause-setting
returns-clause-setting g c =
    let k = c.self.invariant.0 in
    subst (λ (t : Traced). setting t.core ≡ _) c.self.view_is (k.opened ∙ k.set)

pub returns-clause-legal : goal.returns-clause-legal
returns-clause-legal g c =
    subst (λ (t : Traced). LegalTrace _ t.entries (seen t.core).state) c.self.view_is (legal_kept c.self.invariant.0)
