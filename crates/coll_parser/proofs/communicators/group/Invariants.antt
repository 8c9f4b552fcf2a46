use Rattle.std.proofs.Common.{◌≡◌, [], length, drop}
use Rattle.coll_kinds.specs.Groups.{IsGroup}
use Rattle.coll_parser.specs.declared.cause.Cause.TheVariants.{BadRank}
use Rattle.coll_parser.specs.Reading.{numbers_from}
use Rattle.coll_parser.specs.Lines.{rank_in}
use Rattle.coll_parser.proofs.Marks.{AreMarks}
use Rattle.coll_parser.proofs.communicators.group.Given as goal

abbrev pub invariant-loop-word : goal.invariant-loop-word
invariant-loop-word l = record {
  so_far : numbers_from (rank_in l.n) BadRank l.members.items (drop l.word-index l.fn.words) ≡ numbers_from (rank_in l.n) BadRank [] l.fn.words;
  group : IsGroup l.n l.members.items;
  places : length l.is_member ≡ 64;
  marks : AreMarks l.is_member l.members.items;
}
