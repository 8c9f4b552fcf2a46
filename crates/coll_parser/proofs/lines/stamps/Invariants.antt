use Rattle.std.proofs.Common.{◌≡◌, [], length}
use Rattle.std.specs.List.{AllByRecursion}
use Rattle.coll_parser.specs.Code.{rows_view}
use Rattle.coll_parser.proofs.lines.stamps.Given as goal

abbrev pub invariant-loop : goal.invariant-loop
invariant-loop l = record {
  count : length l.stamps.items ≡ l.counter;
  none : AllByRecursion (λ s. s ≡ []) (rows_view l.stamps.items);
}
