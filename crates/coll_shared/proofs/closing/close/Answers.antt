use Rattle.std.proofs.Common.{◌≡◌, length, vec_len, refl, sym, ap, subst, ◌∙◌, arith}
use Rattle.coll_machine.specs.Settings.{Setting}
use Rattle.coll_core.specs.Cores.{seen}
use Rattle.coll_report.specs.Told.{IsIdle}
use Rattle.coll_traced.specs.Closings.{AreEnds, IsBalanced}
use Rattle.coll_shared.proofs.closing.close.Goals as goal

pub merged-all-requires : goal.merged-all-requires
merged-all-requires g c =
    let many = (c.in_default.ensures.ends refl).many ∙ ap (λ (s : Setting). s.ranks) c.objection.ensures.setting in
    let ports = c.args.spents.ok.0 ∙ (sym (ap length c.deref-3.ensures.value) ∙ many) in
    omega (arith, ports, c.args.engine.has_ranks)

pub take_report-report-requires-clause-whole : goal.take_report-report-requires-clause-whole
take_report-report-requires-clause-whole g c =
    let many = (c.in_default.ensures.ends refl).many ∙ ap (λ (s : Setting). s.ranks) c.objection.ensures.setting in
    let ports = c.args.spents.ok.0 ∙ (sym (ap length c.deref-3.ensures.value) ∙ many) in
    c.merged-all.ensures.parts ∙ (ports ∙ sym c.requires)

pub take_report-report-requires-clause-idle : goal.take_report-report-requires-clause-idle
take_report-report-requires-clause-idle g c =
    subst (λ s. IsIdle (seen s.traced.core).state) (c.deref-2.ensures ∙ sym c.deref_mut.ensures.value) (c.in_default.ensures.idle refl)

pub returns-clause-idle : goal.returns-clause-idle
returns-clause-idle g c = λ r lt.
    subst (λ es. IsBalanced r es) (sym c.take_report-report.ensures.entries)
    (subst (λ s. IsBalanced r s.traced.entries) (c.deref-2.ensures ∙ sym c.deref_mut.ensures.value) (c.in_default.ensures.balanced refl r lt))

pub returns-clause-each : goal.returns-clause-each
returns-clause-each g c =
    let ranks = g.L.Entries.setting.ranks in
    let ranks_are = ap (λ (s : Setting). s.ranks) c.objection.ensures.setting in
    let at_start = subst (λ n. AreEnds n c.deref-2.result.now.traced.entries c.deref-3.result.now) ranks_are (c.in_default.ensures.ends refl) in
    let of_spents = subst (AreEnds ranks c.deref-2.result.now.traced.entries) c.deref-3.ensures.value at_start in
    subst (λ es. AreEnds ranks es c.args.spents.items) (sym c.take_report-report.ensures.entries)
    (subst (λ s. AreEnds ranks s.traced.entries c.args.spents.items) (c.deref-2.ensures ∙ sym c.deref_mut.ensures.value) of_spents)
