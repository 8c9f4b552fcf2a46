use Rattle.std.proofs.Common.{◌∙◌}
use Rattle.coll_bytes.proofs.Laying.{laid-push}
use Rattle.coll_bytes.proofs.segments.lay.Goals as goal

pub returns-clause-written : goal.returns-clause-written
returns-clause-written c =
    laid-push c.args.size c.remove_hidden.new.segments.items c.push_reserved.new.self.items c.args.region c.args.bytes
    c.push_reserved.ensures.items c.requires.same
    ∙ c.remove_hidden.ensures.hidden c.args.bytes c.requires.same
