use Rattle.coll_parser.proofs.Keeping.{wait_all-kept}
use Rattle.coll_parser.proofs.section.Section.wait_all.Goals as goal

pub returns : goal.returns
returns c = λ commands is. wait_all-kept c.args.line commands c.args.self.now is
