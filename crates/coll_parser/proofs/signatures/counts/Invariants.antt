use Rattle.coll_parser.proofs.Counted.{AreCounted}
use Rattle.coll_parser.proofs.signatures.counts.Given as goal

abbrev pub invariant-loop-i : goal.invariant-loop-i
invariant-loop-i l = AreCounted l.n l.i l.counts l.words l.fn.words
