use Rattle.std.proofs.Common.{◌≡◌, [], length}
use Rattle.std.specs.List.{AllByRecursion}
use Rattle.coll_parser.specs.Code.{requests_view}
use Rattle.coll_parser.proofs.history.none.Given as goal

abbrev pub invariant-loop : goal.invariant-loop
invariant-loop l = record {
  count : length l.ranks.items ≡ l.counter;
  none : AllByRecursion (λ requests. requests ≡ []) (requests_view l.ranks.items);
}
