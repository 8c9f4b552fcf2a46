use Rattle.coll_report.specs.Views.{trace_seen}
use Rattle.coll_report.proofs.Handing.{attested-by}
use Rattle.coll_report.proofs.report.Report.attests_all.Goals as goal

pub returns-clause-attested : goal.returns-clause-attested
returns-clause-attested c =
    attested-by c.hands_out.result (trace_seen c.entries.result.now) c.args.self.now.entries c.args.rank
    c.args.outcomes.now c.hands_out.ensures.0 c.entries.ensures
