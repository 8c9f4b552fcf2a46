-- the family serves the signature, so its schedules are accepted
use Rattle.std.proofs.Common.{◌≡◌, ◌+◌, ◌*◌, List, [], ◌∷◌, sym, ap, subst, ◌∙◌}
use Rattle.coll_sched.specs.declared.action.Action.{Action}
use Rattle.coll_sched.specs.Schedules.{Parts, IsSchedule}
use Rattle.coll_plans.specs.declared.direct_pattern.Pattern.TheVariants.{ToAll}
use Rattle.coll_plans.specs.DirectExchange.{exchange}
use Rattle.coll_plans.specs.DirectFamilies.{blocks_from, all_blocks, alltoall_by}
use Rattle.coll_plans.proofs.DirectAlltoall.{alltoall_serves}
use Rattle.coll_plans.proofs.direct_alltoall.alltoall.Goals as goal

pub of_lawful_rounds-requires : goal.of_lawful_rounds-requires
of_lawful_rounds-requires c =
    let rounds : c.in_ok-rounds.rounds.items ≡ (alltoall_by c.args.n c.block_bytes-len.result c.args.r).rounds =
    c.in_ok-rounds.ensures.ok
    ∙ (ap (λ (x : List Action). x ∷ []) c.in_ok-round.ensures.ok
    ∙ ((λ k. exchange ToAll (c.each.ensures k) (c.each-2.ensures k) c.args.n c.args.r ∷ [])
    ∙ ap (λ half. exchange ToAll (blocks_from 0 c.block_bytes-len.result) (blocks_from half c.block_bytes-len.result) c.args.n c.args.r ∷ [])
    c.all_bytes-half.ensures.length)) in
    let output : c.all_blocks-output.result ≡ all_blocks (c.args.n * c.block_bytes-len.result) c.args.n c.block_bytes-len.result =
    c.all_blocks-output.ensures ∙ ap (λ half. all_blocks half c.args.n c.block_bytes-len.result) c.all_bytes-half.ensures.length in
    let parts : ◌≡◌ {A = Parts}
    (record {
      size = c.all_bytes-half.result + c.all_bytes-half.result;
      input = c.all_blocks-input.result;
      output =
          c.all_blocks-output.result;
      rounds = c.in_ok-rounds.rounds.items;
    }) (alltoall_by c.args.n c.block_bytes-len.result c.args.r) =
    λ k. record {
      size = c.all_bytes-half.ensures.length k + c.all_bytes-half.ensures.length k;
      input =
          c.all_blocks-input.ensures k;
      output = output k;
      rounds = rounds k;
    } in
    subst IsSchedule (sym (parts ∙ ap (λ b. alltoall_by c.args.n b c.args.r) c.block_bytes-len.ensures.length))
    ((alltoall_serves c.args.sig c.args.n c.requires.kind).serves.lawful.schedules c.args.r c.requires.member)

pub returns-in_err-round-clause-family : goal.returns-in_err-round-clause-family
returns-in_err-round-clause-family c = alltoall_serves c.args.sig c.args.n c.requires.kind

pub returns-in_err-rounds-clause-family : goal.returns-in_err-rounds-clause-family
returns-in_err-rounds-clause-family c = alltoall_serves c.args.sig c.args.n c.requires.kind

pub returns-clause-family : goal.returns-clause-family
returns-clause-family c = alltoall_serves c.args.sig c.args.n c.requires.kind
