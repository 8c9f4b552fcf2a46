-- the family serves the signature, so its schedules are accepted
use Rattle.std.proofs.Common.{arith, sym, subst}
use Rattle.coll_sched.specs.Common.{IsSchedule, nothing}
use Rattle.coll_plans.proofs.DisseminationBarrier.{barrier_serves}
use Rattle.coll_plans.proofs.dissemination_barrier.barrier.Goals as goal

pub returns-in_err-rounds-clause-family : goal.returns-in_err-rounds-clause-family
returns-in_err-rounds-clause-family c = barrier_serves c.args.sig c.args.n c.requires.kind (omega arith) c.requires.few

pub of_lawful_rounds-requires : goal.of_lawful_rounds-requires
of_lawful_rounds-requires c =
    subst (λ rounds. IsSchedule (record { size = 0; input = nothing; output = nothing; rounds = rounds })) (sym c.in_ok-rounds.ensures.ok)
    ((barrier_serves c.args.sig c.args.n c.requires.kind (omega arith) c.requires.few).serves.lawful.schedules c.args.r c.requires.member)

pub returns-clause-family : goal.returns-clause-family
returns-clause-family c = barrier_serves c.args.sig c.args.n c.requires.kind (omega arith) c.requires.few
