use Rattle.coll_report.proofs.Groups.{same_groups-Decides}
use Rattle.coll_report.proofs.report.same_groups.Goals as goal

pub returns : goal.returns
returns c = same_groups-Decides c.args.one.now c.args.other.now c.eq.result c.eq.ensures
