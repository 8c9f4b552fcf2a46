-- one more member
use Rattle.std.proofs.Common.{ℕ, Bool, ◌||◌, sym, ap, ◌∙◌}
use Rattle.std.specs.List.{list_any}
use Rattle.coll_sched.specs.Common.{has_peer, actions_at}
use Rattle.coll_plans.specs.Plans.{family}
use Rattle.coll_draw.proofs.Steps.{list_any_members-more}
use Rattle.coll_draw.proofs.plans.MemberPlans.is_exchange.Goals as goal
use Rattle.coll_draw.proofs.plans.MemberPlans.is_exchange.Goals.{then-found, else-found}

pub loop-member-preserved : goal.loop-member-preserved
loop-member-preserved c =
    let p = λ (r : ℕ). list_any has_peer (actions_at (family c.args.self.now.sig c.args.self.now.n) c.args.round r) in
    let m = c.loop-member.member in
    let more = list_any_members-more p m in
    elim c.if-found.branch [
      | then-found w ↦
          w.found-is ∙ (w.if-found.true
          ∙ sym (more ∙ ap (λ (b : Bool). b || p m) (sym c.loop-member.invariant ∙ w.if-found.true)))
      | else-found w ↦
          w.found-is ∙ (w.has_exchange-found.ensures ∙ (ap (list_any has_peer) w.actions.ensures
          ∙ sym (more ∙ ap (λ (b : Bool). b || p m) (sym c.loop-member.invariant ∙ w.if-found.false))))
    ]
