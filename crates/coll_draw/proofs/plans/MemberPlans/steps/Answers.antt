-- one more round
use Rattle.std.proofs.Common.{◌++◌, List, sym, ap, ◌∙◌}
use Rattle.coll_plans.specs.Plans.{family}
use Rattle.coll_draw.specs.declared.step.DrawnAction.{DrawnAction}
use Rattle.coll_draw.specs.Drawings.{round_steps}
use Rattle.coll_draw.proofs.Steps.{flat_map_members-more}
use Rattle.coll_draw.proofs.plans.MemberPlans.steps.Goals as goal

pub loop-round-preserved : goal.loop-round-preserved
loop-round-preserved c =
    let made = round_steps c.args.self.now.n (family c.args.self.now.sig c.args.self.now.n) in
    let r = c.loop-round.round in
    c.in_ok-push_round.ensures
    ∙ (ap (λ (all : List DrawnAction). all ++ made r) c.loop-round.invariant ∙ sym (flat_map_members-more made r))
