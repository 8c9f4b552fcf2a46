use Rattle.std.proofs.Common.{◌≡◌, ℕ, [], get_or, length, map, List, Vec, Option, ◌<◌, refl, ap, subst, sym, ◌∙◌}
use Rattle.std.specs.Prelude.{unwrap_or}
use Rattle.std.specs.Global.{Global}
use Rattle.coll_parser.specs.declared.request.Request as rust
use Rattle.coll_parser.specs.Requests.{Request}
use Rattle.coll_parser.specs.Code.{request_view, requests_view}
use Rattle.coll_parser.proofs.Lists.{slice_get-view}
use Rattle.coll_script.specs.Postings.{posted_on, requests_of}
use Rattle.coll_script.specs.PostingViews.{lists_view, list_view}
use Rattle.coll_script.proofs.Loops.{map-more, drop-at}
use Rattle.coll_script.proofs.Posted.{map-push}
use Rattle.coll_script.proofs.postings.postings.Goals as goal

pub loop-rank-preserved : goal.loop-rank-preserved
loop-rank-preserved c =
    let ranks = c.args.ranks.now in
    let group = c.args.group.now in
    let i = c.loop-rank.rank-index in
    let rank : ℕ = get_or group i 0 in
    let here : requests_of (requests_view ranks) c.from.result ≡ map request_view c.index-ranks-from.result.items =
    ap (λ (o : Option (List Request)). unwrap_or o [])
    (slice_get-view (λ (requests : Vec rust.Request Global). map request_view requests.items) ranks c.from.result
    c.index-ranks-from.result (subst (λ r. r < length ranks) (sym c.from.ensures) (c.requires i c.loop-rank-test.true)) c.index-ranks-from.is) in
    let list : list_view c.in_ok-posted_on.field-0.items ≡ posted_on c.args.comm (requests_of (requests_view ranks) rank) =
    c.in_ok-posted_on.ensures
    ∙ ap (λ (rs : List rust.Request). posted_on c.args.comm (map request_view rs)) c.deref.ensures.value
    ∙ ap (posted_on c.args.comm) (sym here) ∙ ap (λ r. posted_on c.args.comm (requests_of (requests_view ranks) r)) c.from.ensures in
    rw (
      c.in_ok-push.ensures.items,
      map-push (λ (l : Vec rust.Request Global). list_view l.items) c.loop-rank.lists.items c.in_ok-posted_on.field-0
          (list_view c.in_ok-posted_on.field-0.items) refl,
    )
    (map-more (λ r. posted_on c.args.comm (requests_of (requests_view ranks) r)) group i rank
    (lists_view c.loop-rank.lists.items) _ (list_view c.in_ok-posted_on.field-0.items) (drop-at group i 0 c.loop-rank-test.true) list c.loop-rank.invariant)
