use Rattle.std.proofs.Common.{◌≡◌, ◌+◌, ◌<◌, ◌++◌, ◌∷◌, ℕ, List, length, map, take, get_or, ap, sym, subst, ◌∙◌}
use Rattle.std.specs.String.{string_bytes}
use Rattle.coll_check.specs.Reports.{AreReports, fault_in}
use Rattle.coll_faults.specs.declared.finding.Finding.{Finding}
use Rattle.coll_check.proofs.Following.{reports-step}
use Rattle.coll_check.proofs.reporting.reports.Goals as goal

pub loop-finding-preserved : goal.loop-finding-preserved
loop-finding-preserved c =
    let faults = c.args.faults.now in
    let i = c.loop-finding.finding-index in
    let next = c.finding-item.result in
    let same = c.deref-finding-items.ensures.value in
    let lt = subst (λ (found : List Finding). i < length found) same c.loop-finding-test.true in
    let there = subst (λ (found : List Finding). next ≡ get_or found i next) same c.finding-item.is in
    let bytes = string_bytes c.loop-finding.out in
    let pushed : string_bytes c.push_str.new.self ≡ bytes ++ string_bytes c.in_ok-report.report =
    c.in_ok-push_str.ensures.bytes ∙ ap (λ (report : List ℕ). bytes ++ report) c.as_str.ensures.value in
    subst (AreReports c.args.form (faults.first.fault ∷ map fault_in (take (i + 1) faults.further.items))) (sym pushed)
    (reports-step c.args.form fault_in faults.first.fault faults.further.items i next bytes (string_bytes c.in_ok-report.report) lt there
    c.loop-finding.invariant c.in_ok-report.ensures)
