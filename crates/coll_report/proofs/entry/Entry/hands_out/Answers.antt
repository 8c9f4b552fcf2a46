use Rattle.coll_report.specs.Views.{seen}
use Rattle.coll_report.proofs.Attesting.{attests-Decides}
use Rattle.coll_report.proofs.entry.Entry.hands_out.Goals as goal

pub returns : goal.returns
returns c = attests-Decides (seen c.args.self.now) c.args.outcome.now c.attests.result c.attests.ensures
