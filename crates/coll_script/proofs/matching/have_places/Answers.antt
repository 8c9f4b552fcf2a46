use Rattle.std.proofs.Common.{eqb, length, List, Vec, ◌∙◌, arith}
use Rattle.std.specs.Global.{Global}
use Rattle.std.proofs.lemmas.Bool.{eq-eqb}
use Rattle.coll_parser.specs.declared.request.Request as rust
use Rattle.coll_parser.specs.Requests.{Request}
use Rattle.coll_script.specs.Matching.{first_list}
use Rattle.coll_script.specs.PostingViews.{list_view, lists_view}
use Rattle.coll_script.proofs.Loops.{list_all-more, list_all-stops, at-view}
use Rattle.coll_script.proofs.Matched.{first_list-view, eqb-view, eqb-ne}
use Rattle.coll_script.proofs.matching.have_places.Goals as goal

pub returns-then-len : goal.returns-then-len
returns-then-len c =
    let first = first_list-view c.args.lists.now c.index-lists-0.result (omega (arith, c.loop-list-test.true)) c.index-lists-0.is in
    let here = at-view (λ (l : Vec rust.Request Global). list_view l.items) c.args.lists.now c.loop-list.list-index
    c.list-item.result c.loop-list-test.true c.list-item.is in
    list_all-stops (λ (list : List Request). eqb (length list) (length (first_list (lists_view c.args.lists.now))))
    (lists_view c.args.lists.now) c.loop-list.list-index (list_view c.list-item.result.items) _ here.0 here.1
    (eqb-view c.list-item.result.items c.index-lists-0.result.items _ first
    ∙ eqb-ne (length c.list-item.result.items) (length c.index-lists-0.result.items)
    (λ e. c.if-len.true (omega (arith, c.len.ensures, c.list-item.result.ok, e, c.index-lists-0.result.ok, c.len-in-loop-list.ensures))))
    c.loop-list.invariant

pub loop-list-preserved : goal.loop-list-preserved
loop-list-preserved c =
    let first = first_list-view c.args.lists.now c.index-lists-0.result (omega (arith, c.loop-list-test.true)) c.index-lists-0.is in
    let here = at-view (λ (l : Vec rust.Request Global). list_view l.items) c.args.lists.now c.loop-list.list-index
    c.list-item.result c.loop-list-test.true c.list-item.is in
    list_all-more (λ (list : List Request). eqb (length list) (length (first_list (lists_view c.args.lists.now))))
    (lists_view c.args.lists.now) c.loop-list.list-index (list_view c.list-item.result.items) _ here.0 here.1
    (eqb-view c.list-item.result.items c.index-lists-0.result.items _ first
    ∙ eq-eqb (length c.list-item.result.items) (length c.index-lists-0.result.items)
    (omega (arith, c.len.ensures, c.list-item.result.ok, c.if-len.false, c.index-lists-0.result.ok, c.len-in-loop-list.ensures)))
    c.loop-list.invariant
