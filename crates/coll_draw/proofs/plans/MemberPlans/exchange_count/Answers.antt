-- one more round
use Rattle.std.proofs.Common.{◌≡◌, ℕ, ◌+◌, ◌≤◌, Bool, cond, true, false, count_by, sym, ap, ◌∙◌, arith}
use Rattle.coll_sched.specs.Families.{is_exchange, members}
use Rattle.coll_plans.specs.Plans.{family}
use Rattle.coll_draw.proofs.Steps.{count_by_members-more}
use Rattle.coll_draw.proofs.plans.MemberPlans.exchange_count.Goals as goal
use Rattle.coll_draw.proofs.plans.MemberPlans.exchange_count.Goals.{then-is_exchange, else-is_exchange}

one_more : (p : ℕ → Bool) (k count next : ℕ) (b : Bool) → count ≡ count_by p (members 0 k) → count ≤ k → p k ≡ b → next ≡ count + cond b 1 0
    → (next ≡ count_by p (members 0 (k + 1))) × (next ≤ k + 1)
one_more p k count next b so_far few here is =
    let exact : next ≡ count_by p (members 0 (k + 1)) =
    is ∙ (ap (λ (m : ℕ). m + cond b 1 0) so_far ∙ (ap (λ (x : Bool). count_by p (members 0 k) + cond x 1 0) (sym here) ∙ sym (count_by_members-more p k))) in
    (exact, at_most b is)
  where
    at_most : (x : Bool) → next ≡ count + cond x 1 0 → next ≤ k + 1
    at_most true e = omega arith
    at_most false e = omega arith

pub loop-round-preserved : goal.loop-round-preserved
loop-round-preserved c =
    let p = is_exchange c.args.self.now.n (family c.args.self.now.sig c.args.self.now.n) in
    let i = c.loop-round.invariant in
    elim c.if-is_exchange.branch [
      | then-is_exchange w ↦
          one_more p c.loop-round.round c.loop-round.count c.if-is_exchange.count true i.0 i.1
          (sym c.is_exchange.ensures ∙ w.if-is_exchange.true) w.count-is
      | else-is_exchange w ↦
          let same : c.if-is_exchange.count ≡ c.loop-round.count + 0 = omega (arith, w.count-is) in
          one_more p c.loop-round.round c.loop-round.count c.if-is_exchange.count false i.0 i.1
          (sym c.is_exchange.ensures ∙ w.if-is_exchange.false) same
    ]
