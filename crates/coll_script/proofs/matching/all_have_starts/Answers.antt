use Rattle.std.proofs.Common.{List, Vec, ap, sym, ◌∙◌}
use Rattle.std.specs.Global.{Global}
use Rattle.coll_parser.specs.declared.request.Request as rust
use Rattle.coll_script.specs.Matching.{have_starts}
use Rattle.coll_script.specs.PostingViews.{lists_view, all_lists_view}
use Rattle.coll_script.proofs.Loops.{list_all-more, list_all-stops, at-view}
use Rattle.coll_script.proofs.matching.all_have_starts.Goals as goal

pub returns-then-not-have_starts : goal.returns-then-not-have_starts
returns-then-not-have_starts c =
    let here = at-view (λ (v : Vec (Vec rust.Request Global) Global). lists_view v.items) c.args.all.now c.loop-lists.lists-index
    c.lists-item.result c.loop-lists-test.true c.lists-item.is in
    list_all-stops have_starts (all_lists_view c.args.all.now) c.loop-lists.lists-index (lists_view c.lists-item.result.items) _ here.0 here.1
    (ap (λ (l : List (Vec rust.Request Global)). have_starts (lists_view l)) (sym c.deref.ensures.value)
    ∙ sym c.have_starts.ensures ∙ c.if-not-have_starts.true) c.loop-lists.invariant

pub loop-lists-preserved : goal.loop-lists-preserved
loop-lists-preserved c =
    let here = at-view (λ (v : Vec (Vec rust.Request Global) Global). lists_view v.items) c.args.all.now c.loop-lists.lists-index
    c.lists-item.result c.loop-lists-test.true c.lists-item.is in
    list_all-more have_starts (all_lists_view c.args.all.now) c.loop-lists.lists-index (lists_view c.lists-item.result.items) _ here.0 here.1
    (ap (λ (l : List (Vec rust.Request Global)). have_starts (lists_view l)) (sym c.deref.ensures.value)
    ∙ sym c.have_starts.ensures ∙ c.if-not-have_starts.false) c.loop-lists.invariant
