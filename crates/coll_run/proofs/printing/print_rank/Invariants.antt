use Rattle.std.proofs.Common.{◌≡◌, ◌++◌, ◌<◌, ℕ, [], drop, take, length, map, slice_index}
use Rattle.coll_parser.specs.Code.{request_view}
use Rattle.coll_script.specs.Postings.{posted_on}
use Rattle.coll_run.specs.Index.{handed_in}
use Rattle.coll_run.specs.Lines.{told_behind}
use Rattle.coll_run.proofs.printing.print_rank.Given as goal

abbrev pub invariant-loop-number : goal.invariant-loop-number
invariant-loop-number l = record {
  room : length l.places ≡ 16;
  counted : (comm : ℕ) → comm < 16
      → slice_index l.places comm ≡ length (posted_on comm (take l.number (map request_view l.requests)));
  printed : l.out.items
      ++ told_behind (handed_in l.index.entries) l.rank (take l.number (map request_view l.requests))
      (drop l.number (map request_view l.requests))
      ≡ l.initial.out.items ++ told_behind (handed_in l.index.entries) l.rank [] (map request_view l.requests);
}
