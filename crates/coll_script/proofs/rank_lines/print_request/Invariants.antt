use Rattle.std.proofs.Common.{◌≡◌, ◌++◌, drop, flat_map}
use Rattle.std.specs.List.{enumerate_from}
use Rattle.coll_ops.specs.Values.{row_of}
use Rattle.coll_parser.specs.Code.{request_view}
use Rattle.coll_script.specs.Meaning.{outcome_line}
use Rattle.coll_script.specs.Outcomes.{place_view}
use Rattle.coll_script.specs.Prints.{printed_request}
use Rattle.coll_script.proofs.rank_lines.print_request.Given as goal

abbrev pub invariant-loop-start : goal.invariant-loop-start
invariant-loop-start l =
    l.out.items ++ flat_map (λ e. outcome_line l.rank l.number e.0 l.request.sig.ty (row_of e.1 l.request.member))
    (enumerate_from l.start (drop l.start (place_view l.starts)))
    ≡ l.initial.out.items ++ printed_request l.rank l.number (request_view l.request) (place_view l.starts)
