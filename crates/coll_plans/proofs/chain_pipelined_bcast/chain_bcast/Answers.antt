-- the family serves the signature, so its schedules are accepted
use Rattle.std.proofs.Common.{sym, subst, ◌∙◌}
use Rattle.coll_sched.specs.Schedules.{IsSchedule}
use Rattle.coll_plans.proofs.ChainBcast.{chain_serves, chain_parts}
use Rattle.coll_plans.proofs.chain_pipelined_bcast.chain_bcast.Goals as goal

pub returns-in_err-rounds-clause-family : goal.returns-in_err-rounds-clause-family
returns-in_err-rounds-clause-family c = chain_serves c.args.sig c.args.n c.requires.checked c.requires.kind c.requires.long

pub of_lawful_rounds-requires : goal.of_lawful_rounds-requires
of_lawful_rounds-requires c =
    subst IsSchedule
    (sym (chain_parts c.args.sig c.args.n c.args.r c.block_bytes-len.result c.input_at-input.result c.front-block.result c.in_ok-rounds.rounds.items
    c.block_bytes-len.ensures.length c.input_at-input.ensures c.front-block.ensures c.in_ok-rounds.ensures.ok))
    ((chain_serves c.args.sig c.args.n c.requires.checked c.requires.kind c.requires.long).serves.lawful.schedules c.args.r c.requires.member)

pub returns-clause-schedule : goal.returns-clause-schedule
returns-clause-schedule c =
    c.of_lawful_rounds.ensures
    ∙ chain_parts c.args.sig c.args.n c.args.r c.block_bytes-len.result c.input_at-input.result c.front-block.result c.in_ok-rounds.rounds.items
    c.block_bytes-len.ensures.length c.input_at-input.ensures c.front-block.ensures c.in_ok-rounds.ensures.ok

pub returns-clause-family : goal.returns-clause-family
returns-clause-family c = chain_serves c.args.sig c.args.n c.requires.checked c.requires.kind c.requires.long
