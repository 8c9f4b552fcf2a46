use Rattle.std.proofs.Common.{◌∷◌, [], ℕ, List, Vec, Global, sym, subst}
use Rattle.coll_cases.specs.Code.{HasList}
use Rattle.coll_cases.proofs.Covering.{alone_more}
use Rattle.coll_cases.proofs.outcomes.each_alone.Goals as goal

pub loop-request-preserved : goal.loop-request-preserved
loop-request-preserved c = λ q e.
    subst (λ (lists : List (Vec ℕ Global)). HasList lists (q ∷ [])) (sym c.in_ok-push.ensures.items)
    (alone_more c.args.requests.now c.loop-request.request-index c.loop-request.lists.items c.in_ok-single.field-0 q c.loop-request-test.true
    c.in_ok-single.ensures c.loop-request.invariant e)
