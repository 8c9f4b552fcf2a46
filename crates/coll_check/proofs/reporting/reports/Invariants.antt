use Rattle.std.proofs.Common.{◌∷◌, map, take}
use Rattle.std.specs.String.{string_bytes}
use Rattle.coll_check.specs.Reports.{AreReports, fault_in}
use Rattle.coll_check.proofs.reporting.reports.Given as goal

abbrev pub invariant-loop-finding : goal.invariant-loop-finding
invariant-loop-finding l =
    AreReports l.fn.form (l.faults.first.fault ∷ map fault_in (take l.finding-index l.faults.further.items)) (string_bytes l.out)
