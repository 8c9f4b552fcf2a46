use Rattle.std.proofs.Common.{◌+◌, ◌++◌, ℕ, List, ap, ◌∙◌}
use Rattle.std.specs.String.{string_bytes}
use Rattle.coll_check.specs.Reports.{fault_in}
use Rattle.coll_check.proofs.Following.{reports-all}
use Rattle.coll_check.proofs.reporting.faults_report.Goals as goal

pub returns : goal.returns
returns c =
    let faults = c.args.faults.now in
    let reports = string_bytes c.in_ok-out.out in
    reports-all c.args.form c.args.name.now fault_in faults.first.fault faults.further.items _ faults.is_cut reports
    (string_bytes c.in_ok-end.end) _ (ap (λ (n : ℕ). n + 1) (c.len-count.ensures ∙ c.args.faults.now.further.ok.0)) c.in_ok-out.ensures c.in_ok-end.ensures
    (c.in_ok-push_str.ensures.bytes ∙ ap (λ (end : List ℕ). reports ++ end) c.as_str.ensures.value)
