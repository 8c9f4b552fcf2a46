-- the plan's signature, members and member
use Rattle.std.proofs.Common.{◌≡◌, IfNone, IfSome, subst}
use Rattle.coll_kinds.specs.declared.kind.Kind.TheVariants.{Allreduce}
use Rattle.coll_plans.specs.declared.joined_rows.Neighbours.{Neighbours}
use Rattle.coll_plans.specs.Joins.{CombinesNothing, JoinsRows}
use Rattle.coll_plans.specs.Plans.{Planned}
use Rattle.coll_plans.proofs.planned.Plan.combined_by.Goals as goal

pub returns-clause-joins : goal.returns-clause-joins
returns-clause-joins c =
    subst (λ (p : Planned). IfSome c.joined_rows.result (λ (joined : Neighbours). JoinsRows p.sig p.n p.member c.args.round joined.first joined.count))
    (λ z. record { sig = c.sig.ensures.sig z; n = c.n.ensures.n z; member = c.member.ensures.member z }) c.joined_rows.ensures.joins

pub returns-clause-none : goal.returns-clause-none
returns-clause-none c =
    subst (λ (p : Planned). p.sig.kind ≡ Allreduce → IfNone c.joined_rows.result (CombinesNothing p.sig p.n p.member c.args.round))
    (λ z. record { sig = c.sig.ensures.sig z; n = c.n.ensures.n z; member = c.member.ensures.member z }) c.joined_rows.ensures.none
