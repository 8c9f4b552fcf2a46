-- the family serves the signature, so its schedules are accepted
use Rattle.std.proofs.Common.{◌-◌, List, [], ◌∷◌, ◌++◌, sym, ap, subst, ◌∙◌}
use Rattle.coll_sched.specs.declared.action.Action.{Action}
use Rattle.coll_sched.specs.Schedules.{IsSchedule}
use Rattle.coll_trees.specs.Columns.{rounds_of}
use Rattle.coll_plans.specs.declared.direct_pattern.Pattern.TheVariants.{ToAll}
use Rattle.coll_plans.specs.DirectExchange.{exchange}
use Rattle.coll_plans.specs.DirectFamilies.{combines_below}
use Rattle.coll_plans.proofs.DirectRsblock.{rsblock_serves, rsblock_parts}
use Rattle.coll_plans.proofs.direct_rsblock.rsblock.Goals as goal

pub of_lawful_rounds-requires : goal.of_lawful_rounds-requires
of_lawful_rounds-requires c =
    subst IsSchedule
    (sym (rsblock_parts c.args.sig c.args.n c.args.r c.block_bytes-len.result c.all_bytes-half.result c.in-Some.op
    c.all_blocks-input.result c.push_combines.new.rounds.items c.block_bytes-len.ensures.length
    c.all_bytes-half.ensures.length c.in-Some.is c.all_blocks-input.ensures
    (c.in_ok-push_combines.ensures.ok
    ∙ (ap (λ xs. xs ++ rounds_of (combines_below c.in-Some.op c.args.sig.ty c.each-got.result (c.args.n - 1)) 0)
    (c.in_ok-rounds.ensures.ok ∙ ap (λ (x : List Action). x ∷ []) c.in_ok-round.ensures.ok)
    ∙ (λ k. exchange ToAll (c.each.ensures k) (c.each-got.ensures k) c.args.n c.args.r
    ∷ rounds_of (combines_below c.in-Some.op c.args.sig.ty (c.each-got.ensures k) (c.args.n - 1)) 0)))))
    ((rsblock_serves c.args.sig c.args.n c.requires.checked c.requires.kind).serves.lawful.schedules c.args.r c.requires.member)

pub returns-clause-schedule : goal.returns-clause-schedule
returns-clause-schedule c =
    c.of_lawful_rounds.ensures
    ∙ rsblock_parts c.args.sig c.args.n c.args.r c.block_bytes-len.result c.all_bytes-half.result c.in-Some.op
    c.all_blocks-input.result c.push_combines.new.rounds.items c.block_bytes-len.ensures.length
    c.all_bytes-half.ensures.length c.in-Some.is c.all_blocks-input.ensures
    (c.in_ok-push_combines.ensures.ok
    ∙ (ap (λ xs. xs ++ rounds_of (combines_below c.in-Some.op c.args.sig.ty c.each-got.result (c.args.n - 1)) 0)
    (c.in_ok-rounds.ensures.ok ∙ ap (λ (x : List Action). x ∷ []) c.in_ok-round.ensures.ok)
    ∙ (λ k. exchange ToAll (c.each.ensures k) (c.each-got.ensures k) c.args.n c.args.r
    ∷ rounds_of (combines_below c.in-Some.op c.args.sig.ty (c.each-got.ensures k) (c.args.n - 1)) 0)))

pub returns-in_err-round-clause-family : goal.returns-in_err-round-clause-family
returns-in_err-round-clause-family c = rsblock_serves c.args.sig c.args.n c.requires.checked c.requires.kind

pub returns-in_err-rounds-clause-family : goal.returns-in_err-rounds-clause-family
returns-in_err-rounds-clause-family c = rsblock_serves c.args.sig c.args.n c.requires.checked c.requires.kind

pub returns-in_err-push_combines-clause-family : goal.returns-in_err-push_combines-clause-family
returns-in_err-push_combines-clause-family c = rsblock_serves c.args.sig c.args.n c.requires.checked c.requires.kind

pub returns-clause-family : goal.returns-clause-family
returns-clause-family c = rsblock_serves c.args.sig c.args.n c.requires.checked c.requires.kind
