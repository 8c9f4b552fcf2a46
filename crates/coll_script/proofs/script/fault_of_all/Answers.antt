use Rattle.std.proofs.Common.{arith}
use Rattle.coll_parser.proofs.JudgedLines.{length-lines_of}
use Rattle.coll_script.proofs.script.fault_of_all.Goals as goal

pub overflow_cast-line_count : goal.overflow_cast-line_count
overflow_cast-line_count c = let most = length-lines_of c.args.text.now in omega (arith, most, c.line_count.ensures, c.requires)
