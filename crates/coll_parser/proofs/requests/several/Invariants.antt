use Rattle.std.proofs.Common.{◌≡◌, ℕ, ◌<◌, ◌≤◌, [], length, get_or, drop}
use Rattle.coll_parser.specs.declared.cause.Cause.TheVariants.{NamedTwice}
use Rattle.coll_parser.specs.Reading.{numbers_from}
use Rattle.coll_parser.specs.Lines.{request_in}
use Rattle.coll_parser.specs.Code.{texts}
use Rattle.coll_parser.proofs.Numbers.{AreMarks}
use Rattle.coll_parser.proofs.requests.several.Given as goal

abbrev pub invariant-loop-word : goal.invariant-loop-word
invariant-loop-word l = record {
  so_far : numbers_from (request_in (length l.fn.stamps)) NamedTwice l.named.items (drop l.word-index (texts l.words))
      ≡ numbers_from (request_in (length l.fn.stamps)) NamedTwice [] (texts l.words);
  marks : AreMarks l.line l.stamps l.named.items;
  below : (q : ℕ) → q < length l.stamps → get_or l.stamps q 0 ≤ l.line;
}
