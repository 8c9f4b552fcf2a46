-- each member has a plan
use Rattle.std.proofs.Common.{◌<◌, ap, length, arith}
use Rattle.std.proofs.lemmas.Option.{slice_get_within}
use Rattle.coll_draw.specs.Code.{Collective}
use Rattle.coll_draw.proofs.plans.MemberPlans.actions.Goals as goal

pub returns-in-None : goal.returns-in-None
returns-in-None c =
    let n = ap (λ (x : Collective). x.n) c.self.view_is in
    let low : c.args.member < c.self.inside.n = omega (arith, n) in
    let within : c.args.member < length c.self.inside.plans.items =
    slice_get_within c.self.inside.plans.items c.args.member _ (c.self.invariant.each c.args.member low) in
    let all = ap length c.deref.ensures.value in
    absurd (omega (arith, c.from.ensures, all, c.in-None.ensures.lookup.3))
