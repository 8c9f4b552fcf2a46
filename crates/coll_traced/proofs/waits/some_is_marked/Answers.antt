use Rattle.std.proofs.Common.{◌≡◌, ap, arith, false, get_or, refl, sym, true, ◌∙◌}
use Rattle.coll_traced.specs.Waits.{mark_in}
use Rattle.coll_traced.proofs.waits.some_is_marked.Goals as goal

pub returns-then-is_marked : goal.returns-then-is_marked
returns-then-is_marked c = (
  (λ _. (c.loop-port.port-index, c.port-item.result, omega arith, sym c.port-item.is, sym c.is_marked.ensures ∙ c.if-is_marked.true)),
  (λ _. refl),
)

pub returns : goal.returns
returns c = (
  (λ so. absurd cc),
  (λ any.
      let unmarked : mark_in (get_or c.args.ports.now any.0 any.1) ≡ false = c.loop-port.invariant any.0 any.1 (omega (arith, any.2)) in
      let marked : mark_in (get_or c.args.ports.now any.0 any.1) ≡ true = ap mark_in any.3 ∙ any.4 in
      let e : false ≡ true = sym unmarked ∙ marked in
      absurd cc),
)
