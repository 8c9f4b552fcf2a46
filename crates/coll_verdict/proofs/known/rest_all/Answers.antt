use Rattle.std.proofs.Common.{ℕ, ◌+◌, ◌<◌, ◌≤◌, List, subst, ◌||◌, eqb, length, take, sym, ap, ◌∙◌, arith}
use Rattle.std.proofs.lemmas.List.Folds.{list_any_more}
use Rattle.coll_kinds.specs.Groups.{is_among}
use Rattle.coll_verdict.specs.Code.{IsSketch}
use Rattle.coll_verdict.specs.Sketches.{resting}
use Rattle.coll_verdict.proofs.Listed.{take_whole}
use Rattle.coll_verdict.proofs.Telling.{is_unrested, is_rested_more}
use Rattle.coll_verdict.proofs.known.rest_all.Goals as goal

pub loop-index-init : goal.loop-index-init
loop-index-init c = λ k s. is_unrested c.args.requests.now.items k s

pub loop-index-preserved : goal.loop-index-preserved
loop-index-preserved c = λ k s.
    let i = c.loop-index.index in
    let qs = c.args.named.now in
    let low : i < length qs = omega (arith, c.loop-index-test.true, c.len-index-end.ensures) in
    is_rested_more c.rest.new.requests.items k (take i qs) (take (i + 1) qs) c.get.result
    (λ j. list_any_more (λ other. eqb other j) qs i 0 low ∙ ap (λ q. is_among j (take i qs) || eqb q j) (sym c.get.ensures))
    (c.rest.ensures (resting k (take i qs)) (c.loop-index.invariant k s))

pub returns : goal.returns
returns c = λ k s.
    let far : length c.args.named.now ≤ c.loop-index.index = omega (arith, c.loop-index-test.false, c.len-index-end.ensures) in
    subst (λ (qs : List ℕ). IsSketch c.loop-index.requests.items (resting k qs))
    (take_whole c.args.named.now c.loop-index.index far) (c.loop-index.invariant k s)
