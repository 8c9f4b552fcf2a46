use Rattle.std.proofs.Common.{◌≡◌, length}
use Rattle.coll_parser.specs.Histories.{History}
use Rattle.coll_verdict.specs.Code.{AreStood}
use Rattle.coll_cases.proofs.putting.to_beginnings.Given as goal

abbrev pub invariant-loop-index : goal.invariant-loop-index
invariant-loop-index l = record {
  count : length l.ranks.items ≡ length l.initial.ranks.items;
  stood : (h : History) → AreStood h l.initial.ranks.items → AreStood h l.ranks.items;
}
