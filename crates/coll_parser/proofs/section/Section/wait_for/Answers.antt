use Rattle.coll_parser.proofs.section.Section.wait_for.Goals as goal

pub returns-else-is_first : goal.returns-else-is_first
returns-else-is_first c = λ commands is. c.wait_each.ensures c.args.line commands is
