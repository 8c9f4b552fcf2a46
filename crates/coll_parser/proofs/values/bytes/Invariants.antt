use Rattle.std.proofs.Common.{◌≡◌, drop}
use Rattle.coll_parser.specs.Code.{texts, valued}
use Rattle.coll_parser.proofs.Valued.{with_front}
use Rattle.coll_parser.proofs.values.bytes.Given as goal

abbrev pub invariant-loop-word : goal.invariant-loop-word
invariant-loop-word l = with_front l.bytes.items (valued l.ty (drop l.word-index (texts l.words))) ≡ valued l.ty (texts l.words)
