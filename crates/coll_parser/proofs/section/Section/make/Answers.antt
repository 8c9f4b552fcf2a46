use Rattle.std.proofs.Common.{refl}
use Rattle.coll_parser.proofs.Keeping.{made-kept}
use Rattle.coll_parser.proofs.section.Section.make.Goals as goal

pub returns : goal.returns
returns c = λ line commands command is posts. made-kept line commands c.args.self.now _ command _ posts refl refl refl c.in_ok-push.ensures.items is
