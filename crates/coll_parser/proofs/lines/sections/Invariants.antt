use Rattle.std.proofs.Common.{◌≡◌, [], length}
use Rattle.std.specs.List.{AllByRecursion}
use Rattle.coll_parser.specs.Code.{IsKept}
use Rattle.coll_parser.proofs.lines.sections.Given as goal

abbrev pub invariant-loop : goal.invariant-loop
invariant-loop l = record {
  count : length l.sections.items ≡ l.counter;
  kept : AllByRecursion (IsKept 1 []) l.sections.items;
}
