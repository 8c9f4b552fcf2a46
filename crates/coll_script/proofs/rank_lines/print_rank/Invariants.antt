use Rattle.std.proofs.Common.{◌≡◌, ◌++◌, ◌<◌, ℕ, [], drop, take, length, map, slice_index}
use Rattle.coll_parser.specs.Code.{request_view}
use Rattle.coll_script.specs.Postings.{posted_on}
use Rattle.coll_script.specs.Outcomes.{values_view}
use Rattle.coll_script.specs.Prints.{printed_behind}
use Rattle.coll_script.proofs.rank_lines.print_rank.Given as goal

abbrev pub invariant-loop-number : goal.invariant-loop-number
invariant-loop-number l = record {
  room : length l.places ≡ 16;
  counted : (comm : ℕ) → comm < 16 → slice_index l.places comm ≡ length (posted_on comm (take l.number (map request_view l.requests)));
  printed : l.out.items ++ printed_behind (values_view l.values) l.rank (take l.number (map request_view l.requests))
      (drop l.number (map request_view l.requests))
      ≡ l.initial.out.items ++ printed_behind (values_view l.values) l.rank [] (map request_view l.requests);
}
