use Rattle.std.proofs.Common.{[], ℕ, List, Vec, Global, filter, take, sym, subst}
use Rattle.coll_verdict.proofs.Listed.{take_whole}
use Rattle.coll_cases.specs.Code.{HasList}
use Rattle.coll_cases.proofs.Covering.{has_last, subset_more}
use Rattle.coll_cases.proofs.outcomes.subsets.Goals as goal

pub loop-request-init : goal.loop-request-init
loop-request-init c = λ f.
    subst (λ (lists : List (Vec ℕ Global)). HasList lists []) (sym c.in_ok-push.ensures.items)
    (has_last c.new-lists.result.items c.new.result [] c.new.ensures.items)

pub loop-request-preserved : goal.loop-request-preserved
loop-request-preserved c = λ f.
    subset_more f c.args.requests.now c.loop-request.request-index c.deref.result.now c.in_ok-lists.lists.items c.loop-request-test.true
    (subst (λ (lists : List (Vec ℕ Global)). HasList lists (filter f (take c.loop-request.request-index c.args.requests.now))) (sym c.deref.ensures.value)
    (c.loop-request.invariant f))
    c.in_ok-lists.ensures.without c.in_ok-lists.ensures.joined

pub returns : goal.returns
returns c = λ f.
    subst (λ (qs : List ℕ). HasList c.loop-request.lists.items (filter f qs))
    (take_whole c.args.requests.now c.loop-request.request-index c.loop-request-test.false) (c.loop-request.invariant f)
