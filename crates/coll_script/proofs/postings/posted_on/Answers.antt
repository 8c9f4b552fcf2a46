use Rattle.std.proofs.Common.{map, ap, ◌∙◌}
use Rattle.std.proofs.lemmas.Bool.{eq-eqb, ne_eqb}
use Rattle.coll_parser.specs.Code.{request_view}
use Rattle.coll_script.specs.PostingViews.{list_view}
use Rattle.coll_script.proofs.Posted.{map-push, posted-kept, posted-left}
use Rattle.coll_script.proofs.Loops.{drop-view}
use Rattle.coll_script.proofs.postings.posted_on.Goals as goal
use Rattle.coll_script.proofs.postings.posted_on.Goals.{then-request-comm+in_ok-copied+in_ok-push, else-request-comm}

pub loop-request-preserved : goal.loop-request-preserved
loop-request-preserved c =
    let p = request_view c.request-item.result in
    let all = map request_view c.args.requests.now in
    let out = list_view c.loop-request.list.items in
    let front = drop-view request_view c.args.requests.now c.loop-request.request-index c.request-item.result c.loop-request-test.true c.request-item.is in
    elim c.if-request-comm.branch [
      | then-request-comm+in_ok-copied+in_ok-push w ↦
          posted-kept c.args.comm all c.loop-request.request-index p out (list_view c.if-request-comm.list.items) _ front
          (eq-eqb p.comm c.args.comm w.if-request-comm.true)
          (ap (λ l. list_view l.items) w.list-is ∙ ap list_view w.in_ok-push.ensures.items
          ∙ map-push request_view c.loop-request.list.items w.in_ok-copied.field-0 p w.in_ok-copied.ensures)
          c.loop-request.invariant
      | else-request-comm w ↦ rw w.list-is
          (posted-left c.args.comm all c.loop-request.request-index p out _ front (ne_eqb p.comm c.args.comm w.if-request-comm.false) c.loop-request.invariant)
    ]
