-- the family serves the signature, so its schedules are accepted
use Rattle.std.proofs.Common.{arith, sym, subst, ◌∙◌}
use Rattle.coll_sched.specs.Schedules.{IsSchedule}
use Rattle.coll_plans.proofs.RecursiveDoublingAllreduce.{allreduce_serves, allreduce_parts}
use Rattle.coll_plans.proofs.recursive_doubling_allreduce.allreduce.Goals as goal

pub returns-in_err-rounds-clause-family : goal.returns-in_err-rounds-clause-family
returns-in_err-rounds-clause-family c = allreduce_serves c.args.sig c.args.n c.requires.checked c.requires.kind (omega arith) c.requires.few

pub of_lawful_rounds-requires : goal.of_lawful_rounds-requires
of_lawful_rounds-requires c =
    subst IsSchedule
    (sym (allreduce_parts c.args.sig c.args.n c.args.r c.block_bytes-len.result c.new.result.extra c.new.result.dimension
    c.in-Some.op c.in_ok-rounds.rounds.items
    c.block_bytes-len.ensures.length c.in-Some.is c.new.ensures.extra c.new.ensures.dimension c.in_ok-rounds.ensures.ok))
    ((allreduce_serves c.args.sig c.args.n c.requires.checked c.requires.kind (omega arith) c.requires.few).serves.lawful.schedules c.args.r c.requires.member)

pub returns-clause-schedule : goal.returns-clause-schedule
returns-clause-schedule c =
    c.of_lawful_rounds.ensures
    ∙ allreduce_parts c.args.sig c.args.n c.args.r c.block_bytes-len.result c.new.result.extra c.new.result.dimension c.in-Some.op c.in_ok-rounds.rounds.items
    c.block_bytes-len.ensures.length c.in-Some.is c.new.ensures.extra c.new.ensures.dimension c.in_ok-rounds.ensures.ok

pub returns-clause-family : goal.returns-clause-family
returns-clause-family c = allreduce_serves c.args.sig c.args.n c.requires.checked c.requires.kind (omega arith) c.requires.few
