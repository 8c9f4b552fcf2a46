use Rattle.coll_report.specs.Attested.{key_of}
use Rattle.coll_report.proofs.Attesting.{any_attests-by}
use Rattle.coll_report.proofs.report.Report.attests.Goals as goal

pub returns : goal.returns
returns c =
    any_attests-by c.args.outcome.now.rank (key_of c.args.outcome.now) c.args.outcome.now.bytes
    c.any_attests.result c.entries.result.now c.args.self.now.entries c.any_attests.ensures c.entries.ensures
