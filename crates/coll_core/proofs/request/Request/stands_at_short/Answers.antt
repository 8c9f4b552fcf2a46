use Rattle.std.proofs.Common.{true, ◌≡◌, ◌∙◌, Some, ap, refl, sym}
use Rattle.coll_core.specs.Requests.{shown}
use Rattle.coll_core.proofs.commit.WorkOut.{stands_by}
use Rattle.coll_core.proofs.request.Request.stands_at_short.Goals as goal

pub returns-then-has : goal.returns-then-has
returns-then-has c =
    let w = c.in-Some-Combine in
    let next_is = sym c.next.ensures.is ∙ (w.is ∙ ap Some w.field-0-is) in
    let round_is : c.args.self.now.round ≡ c.args.work.now.round = search in
    let index_is : c.args.self.now.index ≡ c.args.work.now.index = search in
    let same : c.are_alike_short.result ≡ true = search in
    let alike : (w.op ≡ c.args.work.now.op) × (w.ty ≡ c.args.work.now.ty) = c.are_alike_short.ensures.0 same in
    let left_is = c.has.ensures.0 c.if-has.true ∙ c.left.ensures in
    stands_by (shown c.args.self.now) c.args.work.now w.op w.ty w.left w.right w.field-0-4 c.has-then-has.result next_is round_is
    index_is alike.0 alike.1 left_is
    _ _ refl c.right.ensures c.has-then-has.ensures
