use Rattle.std.proofs.Common.{◌≡◌, ◌++◌, ◌-◌, length, flat_map}
use Rattle.std.specs.List.{range_with_len}
use Rattle.coll_parser.specs.Code.{request_view}
use Rattle.coll_run.specs.Index.{handed_in}
use Rattle.coll_run.specs.Lines.{told_request, told_start}
use Rattle.coll_run.proofs.printing.print_request.Given as goal

abbrev pub invariant-loop-start : goal.invariant-loop-start
invariant-loop-start l =
    l.out.items
    ++ flat_map (told_start (handed_in l.index.entries) l.rank l.number l.place (request_view l.request))
    (range_with_len l.start (length (request_view l.request).starts - l.start))
    ≡ l.initial.out.items ++ told_request (handed_in l.index.entries) l.rank l.number l.place (request_view l.request)
