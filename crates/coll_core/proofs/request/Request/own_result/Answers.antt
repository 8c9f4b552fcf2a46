use Rattle.std.proofs.Common.{true, ◌≡◌, ◌∙◌, Some, ap, sym}
use Rattle.coll_core.specs.Requests.{shown}
use Rattle.coll_core.proofs.commit.WorkOut.{own_of_regions}
use Rattle.coll_core.proofs.request.Request.own_result.Goals as goal

pub returns : goal.returns
returns c =
    let w = c.in-Some-Combine in
    let a = c.in_ok-awaited.awaited.now in
    let next_is = sym c.next.ensures.is ∙ (w.is ∙ ap Some w.field-0-is) in
    let round_is : c.args.self.now.round ≡ c.args.work.now.round = search in
    let index_is : c.args.self.now.index ≡ c.args.work.now.index = search in
    let same : c.are_alike.result ≡ true = search in
    let alike : (w.op ≡ c.args.work.now.op) × (w.ty ≡ c.args.work.now.ty) = c.are_alike.ensures.0 same in
    let found : c.is_of.result ≡ true = search in
    own_of_regions (shown c.args.self.now) c.args.work.now w.op a.op w.ty a.ty w.left a.left w.right a.right w.field-0-4 a.cell next_is round_is index_is alike
    (c.is_of.ensures.0 found) c.in_ok-awaited.ensures c.result.result c.result.ensures
