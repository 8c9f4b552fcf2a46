use Rattle.coll_parser.proofs.Texts.{text-again}
use Rattle.coll_parser.proofs.laws.reads_what_is_written.Goals as goal

pub returns : goal.returns
returns c = λ first lines h tells. text-again first lines h tells
