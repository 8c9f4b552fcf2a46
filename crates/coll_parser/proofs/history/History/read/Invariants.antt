use Rattle.std.proofs.Common.{◌≡◌, ◌+◌, length, drop}
use Rattle.coll_parser.specs.Cutting.{lines_of}
use Rattle.coll_parser.specs.Histories.{beginning}
use Rattle.coll_parser.specs.Judging.{judged}
use Rattle.coll_parser.specs.Code.{history_of, IsReader, IsStamped}
use Rattle.coll_parser.proofs.history.History.read.Given as goal

abbrev pub invariant-loop-bytes : goal.invariant-loop-bytes
invariant-loop-bytes l = record {
  so_far : judged l.number (history_of l.reader) (drop (length l.yielded) (lines_of l.text))
      ≡ judged 1 beginning (lines_of l.text);
  number : l.number ≡ length l.yielded + 1;
  reader : IsReader l.number l.reader;
  stamped : IsStamped l.number l.reader;
}
