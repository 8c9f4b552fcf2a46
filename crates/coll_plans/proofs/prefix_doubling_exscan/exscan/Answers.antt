-- the family serves the signature, so its schedules are accepted
use Rattle.std.proofs.Common.{sym, subst, ◌∙◌}
use Rattle.coll_sched.specs.Schedules.{IsSchedule}
use Rattle.coll_plans.proofs.PrefixDoublingExscan.{exscan_serves, exscan_parts}
use Rattle.coll_plans.proofs.prefix_doubling_exscan.exscan.Goals as goal

pub returns-in_err-rounds-clause-family : goal.returns-in_err-rounds-clause-family
returns-in_err-rounds-clause-family c = exscan_serves c.args.sig c.args.n c.requires.checked c.requires.kind c.requires.few

pub of_lawful_rounds-requires : goal.of_lawful_rounds-requires
of_lawful_rounds-requires c =
    subst IsSchedule
    (sym (exscan_parts c.args.sig c.args.n c.args.r c.block_bytes-len.result c.in-Some.op c.output_at-output.result
    c.in_ok-rounds.rounds.items c.block_bytes-len.ensures.length c.in-Some.is c.output_at-output.ensures c.in_ok-rounds.ensures.ok))
    ((exscan_serves c.args.sig c.args.n c.requires.checked c.requires.kind c.requires.few).serves.lawful.schedules c.args.r c.requires.member)

pub returns-clause-schedule : goal.returns-clause-schedule
returns-clause-schedule c =
    c.of_lawful_rounds.ensures
    ∙ exscan_parts c.args.sig c.args.n c.args.r c.block_bytes-len.result c.in-Some.op c.output_at-output.result
    c.in_ok-rounds.rounds.items c.block_bytes-len.ensures.length c.in-Some.is c.output_at-output.ensures c.in_ok-rounds.ensures.ok

pub returns-clause-family : goal.returns-clause-family
returns-clause-family c = exscan_serves c.args.sig c.args.n c.requires.checked c.requires.kind c.requires.few
