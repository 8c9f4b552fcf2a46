use Rattle.std.proofs.Common.{◌≡◌, ◌<◌, ◌++◌, ℕ, List, length, ap, subst, sym, ◌∙◌}
use Rattle.coll_ops.specs.Values.{row_of}
use Rattle.coll_parser.proofs.Lists.{AllByRecursion-read}
use Rattle.coll_script.specs.Meaning.{outcome_line}
use Rattle.coll_script.specs.Outcomes.{members_view, place_view}
use Rattle.coll_script.proofs.Loops.{text-more, at-view, drop-view}
use Rattle.coll_script.proofs.rank_lines.print_request.Goals as goal

pub of-value-requires : goal.of-value-requires
of-value-requires c =
    let here = at-view members_view c.args.starts.now c.loop-start.start c.index-starts-start.result c.loop-start-test.true c.index-starts-start.is in
    let long = AllByRecursion-read (λ (rows : List (List ℕ)). c.args.request.now.member < length rows)
    (place_view c.args.starts.now) c.loop-start.start (members_view c.index-starts-start.result) c.requires.members here.0 in
    subst (λ m. m < length (members_view c.index-starts-start.result)) (sym c.from.ensures)
    (subst (λ (rows : List (List ℕ)). c.args.request.now.member < length rows) (sym here.1) long)

pub loop-start-preserved : goal.loop-start-preserved
loop-start-preserved c =
    let rows = c.index-starts-start.result in
    let member = c.args.request.now.member in
    let value : c.of-value.result.now ≡ row_of (members_view rows) member = c.of-value.ensures ∙ ap (row_of (members_view rows)) c.from.ensures in
    let printed : c.print_outcome.new.out.items
    ≡ c.loop-start.out.items ++ outcome_line c.args.rank c.args.number c.loop-start.start c.args.request.now.sig.ty (row_of (members_view rows) member) =
    c.in_ok-print_outcome.ensures.ok
    ∙ ap (λ (row : List ℕ). c.loop-start.out.items ++ outcome_line c.args.rank c.args.number c.loop-start.start c.args.request.now.sig.ty row) value in
    rw printed (text-more (λ e. outcome_line c.args.rank c.args.number e.0 c.args.request.now.sig.ty (row_of e.1 member))
    (place_view c.args.starts.now) c.loop-start.start (members_view rows) c.loop-start.out.items _
    (drop-view members_view c.args.starts.now c.loop-start.start rows c.loop-start-test.true c.index-starts-start.is) c.loop-start.invariant)
