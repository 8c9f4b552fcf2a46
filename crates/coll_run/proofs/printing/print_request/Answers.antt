use Rattle.std.proofs.Common.{◌≡◌, ◌<◌, ◌++◌, ap, ◌∙◌, arith, length, [], sym}
use Rattle.std.specs.Prelude.{unwrap_or}
use Rattle.std.proofs.lemmas.List.{length-map}
use Rattle.std.proofs.lemmas.Result.{err_from_is_err_and}
use Rattle.coll_parser.specs.Code.{request_view}
use Rattle.coll_script.specs.Meaning.{outcome_line}
use Rattle.coll_run.specs.Index.{handed_in}
use Rattle.coll_run.specs.Lines.{told_start}
use Rattle.coll_script.proofs.Loops.{flat_map_range-more}
use Rattle.coll_run.proofs.printing.print_request.Goals as goal

pub loop-start-preserved : goal.loop-start-preserved
loop-start-preserved c =
    let p = request_view c.args.request.now in
    let handed = handed_in c.args.index.now.entries in
    let i = c.loop-start.start in
    let out = c.loop-start.out.items in
    let count : length p.starts ≡ length c.args.request.now.starts.items =
    length-map c.args.request.now.starts.items _ in
    let lt : i < length p.starts =
    omega (arith, c.loop-start-test.true, c.len-start-end.ensures, count, c.args.request.now.starts.ok) in
    let printed : c.print_start.new.out.items ≡ out ++ told_start handed c.args.rank c.args.number c.args.place p i =
    c.in_ok-print_start.ensures.ok
    ∙ ap (λ k. out ++ outcome_line c.args.rank c.args.number i p.sig.ty
    (unwrap_or (handed c.args.rank k c.args.place i) [])) c.from-comm.ensures in
    rw printed
    (flat_map_range-more (told_start handed c.args.rank c.args.number c.args.place p)
    (length p.starts) i out _ lt c.loop-start.invariant)

pub returns-in_err-print_start-clause-torn : goal.returns-in_err-print_start-clause-torn
returns-in_err-print_start-clause-torn c =
    let e = err_from_is_err_and c.from_residual.result c.from_residual.ensures.1 in
    let p = request_view c.args.request.now in
    let handed = handed_in c.args.index.now.entries in
    let i = c.loop-start.start in
    let count : length p.starts ≡ length c.args.request.now.starts.items =
    length-map c.args.request.now.starts.items _ in
    let lt : i < length p.starts =
    omega (arith, c.loop-start-test.true, c.len-start-end.ensures, count, c.args.request.now.starts.ok) in
    rw (e.1, e.2)
    (λ is. record {
      start = i;
      low = lt;
      none = ap (λ k. handed c.args.rank k c.args.place i) (sym c.from-comm.ensures)
          ∙ c.in_err-print_start.ensures.torn is;
    })
