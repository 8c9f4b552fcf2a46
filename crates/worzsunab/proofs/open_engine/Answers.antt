use Rattle.std.proofs.Common.{◌≡◌, arith, inr, subst, sym}
use Rattle.std.specs.Prelude.{IfErr}
use Rattle.std.proofs.lemmas.Grind.{common_steps}
use Rattle.std.proofs.lemmas.Result.{IfErr-weaker}
use Rattle.coll_core.specs.Communicators.{groups_seen}
use Rattle.worzsunab.specs.Openings.{DeniesOpen}
use Rattle.worzsunab.proofs.open_engine.Goals as goal

pub returns-in_err-engine-clause-refused : goal.returns-in_err-engine-clause-refused
returns-in_err-engine-clause-refused c =
    let why = c.in_err-engine.field-0.0 in
    let denied : DeniesOpen c.args.limits c.args.sizes.now c.args.members.now why = inr (record {
      groups = groups_seen c.in_ok-groups.groups.items;
      is_cut = c.in_ok-groups.ensures.cut;
      config = c.config.result;
      config_is = c.config.ensures;
      unopened = c.in_err-engine.ensures.refused;
    }) in
    let told : IfErr c.from_residual-in_err-engine.result (λ other. other ≡ why) = grind (arith, common_steps) in
    IfErr-weaker c.from_residual-in_err-engine.result (λ other. other ≡ why) (DeniesOpen c.args.limits c.args.sizes.now c.args.members.now)
    (λ other same. subst (DeniesOpen c.args.limits c.args.sizes.now c.args.members.now) (sym same) denied) told
