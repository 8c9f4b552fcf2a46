-- one more member
use Rattle.std.proofs.Common.{ℕ, ◌++◌, List, map, ap, ◌∙◌}
use Rattle.coll_sched.specs.declared.action.Action.{Action}
use Rattle.coll_sched.specs.Families.{actions_at}
use Rattle.coll_plans.specs.Plans.{family}
use Rattle.coll_draw.specs.Drawings.{step_of}
use Rattle.coll_draw.proofs.Steps.{flat_map_members-push}
use Rattle.coll_draw.proofs.plans.MemberPlans.push_round.Goals as goal

pub loop-member-preserved : goal.loop-member-preserved
loop-member-preserved c =
    let made = λ (r : ℕ). map (step_of c.args.round r) (actions_at (family c.args.self.now.sig c.args.self.now.n) c.args.round r) in
    let pushed = ap (λ (actions : List Action). c.loop-member.all.items ++ map (step_of c.args.round c.loop-member.member) actions) c.actions.ensures in
    flat_map_members-push made c.loop-member.member c.args.all.now.items c.loop-member.all.items c.push_steps.new.all.items
    c.loop-member.invariant (c.in_ok-push_steps.ensures ∙ pushed)
