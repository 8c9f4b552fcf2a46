use Rattle.std.proofs.Common.{List, Vec, ap, ◌∙◌, sym, arith}
use Rattle.std.specs.Global.{Global}
use Rattle.coll_parser.specs.declared.request.Request as rust
use Rattle.coll_parser.specs.Requests.{Request}
use Rattle.coll_script.specs.Matching.{first_list, started_alike}
use Rattle.coll_script.specs.PostingViews.{list_view, lists_view}
use Rattle.coll_script.proofs.Loops.{list_all-more, list_all-stops, at-view}
use Rattle.coll_script.proofs.Matched.{first_list-view}
use Rattle.coll_script.proofs.matching.have_starts.Goals as goal

pub returns-then-not-started_alike : goal.returns-then-not-started_alike
returns-then-not-started_alike c =
    let first = first_list-view c.args.lists.now c.index-lists-0.result (omega (arith, c.loop-list-test.true)) c.index-lists-0.is in
    let here = at-view (λ (l : Vec rust.Request Global). list_view l.items) c.args.lists.now c.loop-list.list-index
    c.list-item.result c.loop-list-test.true c.list-item.is in
    list_all-stops (started_alike (first_list (lists_view c.args.lists.now))) (lists_view c.args.lists.now)
    c.loop-list.list-index (list_view c.list-item.result.items) _ here.0 here.1
    (ap (λ (l : List Request). started_alike l (list_view c.list-item.result.items)) first
    ∙ ap (λ (l : List rust.Request). started_alike (list_view c.index-lists-0.result.items) (list_view l)) (sym c.deref-in-loop-list.ensures.value)
    ∙ ap (λ (l : List rust.Request). started_alike (list_view l) (list_view c.deref-in-loop-list.result.now)) (sym c.deref.ensures.value)
    ∙ sym c.started_alike.ensures ∙ c.if-not-started_alike.true)
    c.loop-list.invariant

pub loop-list-preserved : goal.loop-list-preserved
loop-list-preserved c =
    let first = first_list-view c.args.lists.now c.index-lists-0.result (omega (arith, c.loop-list-test.true)) c.index-lists-0.is in
    let here = at-view (λ (l : Vec rust.Request Global). list_view l.items) c.args.lists.now c.loop-list.list-index
    c.list-item.result c.loop-list-test.true c.list-item.is in
    list_all-more (started_alike (first_list (lists_view c.args.lists.now))) (lists_view c.args.lists.now) c.loop-list.list-index
    (list_view c.list-item.result.items) _ here.0 here.1
    (ap (λ (l : List Request). started_alike l (list_view c.list-item.result.items)) first
    ∙ ap (λ (l : List rust.Request). started_alike (list_view c.index-lists-0.result.items) (list_view l)) (sym c.deref-in-loop-list.ensures.value)
    ∙ ap (λ (l : List rust.Request). started_alike (list_view l) (list_view c.deref-in-loop-list.result.now)) (sym c.deref.ensures.value)
    ∙ sym c.started_alike.ensures ∙ c.if-not-started_alike.false)
    c.loop-list.invariant
