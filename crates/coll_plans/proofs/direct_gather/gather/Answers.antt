-- the family serves the signature, so its schedules are accepted
use Rattle.std.proofs.Common.{◌≡◌, List, [], ◌∷◌, sym, ap, subst, ◌∙◌}
use Rattle.coll_sched.specs.declared.action.Action.{Action}
use Rattle.coll_sched.specs.Schedules.{Parts, IsSchedule}
use Rattle.coll_plans.specs.declared.direct_pattern.Pattern.TheVariants.{ToRoot}
use Rattle.coll_plans.specs.DirectExchange.{exchange}
use Rattle.coll_plans.specs.DirectFamilies.{gather_by}
use Rattle.coll_plans.proofs.DirectGather.{gather_serves}
use Rattle.coll_plans.proofs.direct_gather.gather.Goals as goal

pub of_lawful_rounds-requires : goal.of_lawful_rounds-requires
of_lawful_rounds-requires c =
    let rounds : c.in_ok-rounds.rounds.items ≡ (gather_by c.args.sig.root c.args.n c.block_bytes-len.result c.args.r).rounds =
    c.in_ok-rounds.ensures.ok
    ∙ (ap (λ (x : List Action). x ∷ []) c.in_ok-round.ensures.ok
    ∙ (λ k. exchange (ToRoot c.args.sig.root) (c.one.ensures k) (c.each.ensures k) c.args.n c.args.r ∷ [])) in
    let parts : ◌≡◌ {A = Parts}
    (record {
      size = c.size_at-size.result;
      input = record { at = 0; len = c.block_bytes-len.result };
      output =
          c.blocks_if-output.result;
      rounds = c.in_ok-rounds.rounds.items;
    }) (gather_by c.args.sig.root c.args.n c.block_bytes-len.result c.args.r) =
    λ k. record {
      size = c.size_at-size.ensures k;
      input = record { at = 0; len = c.block_bytes-len.result };
      output =
          c.blocks_if-output.ensures k;
      rounds = rounds k;
    } in
    subst IsSchedule (sym (parts ∙ ap (λ b. gather_by c.args.sig.root c.args.n b c.args.r) c.block_bytes-len.ensures.length))
    ((gather_serves c.args.sig c.args.n c.requires.kind).serves.lawful.schedules c.args.r c.requires.member)

pub returns-in_err-round-clause-family : goal.returns-in_err-round-clause-family
returns-in_err-round-clause-family c = gather_serves c.args.sig c.args.n c.requires.kind

pub returns-in_err-rounds-clause-family : goal.returns-in_err-rounds-clause-family
returns-in_err-rounds-clause-family c = gather_serves c.args.sig c.args.n c.requires.kind

pub returns-clause-family : goal.returns-clause-family
returns-clause-family c = gather_serves c.args.sig c.args.n c.requires.kind
