use Rattle.std.proofs.Common.{◌∙◌, ◌∷◌, [], true, false, sym, ◌≡◌, Some, arith}
use Rattle.std.specs.Result.{result_err}
use Rattle.std.proofs.lemmas.Grind.{common_steps}
use Rattle.coll_kinds.specs.declared.kind.Mode.TheVariants.{Persistent}
use Rattle.coll_refinement.specs.Engines.{entry_refusals}
use Rattle.coll_refinement.proofs.engine.Statements.{full_refusal}
use Rattle.coll_core.specs.Posts.{planned}
use Rattle.coll_core.proofs.post.Tests.{init_tested, stops_at_entry, enters, at_free}
use Rattle.coll_core.proofs.engine.Core.may_init.Goals as goal

pub returns-in_err-may_enter : goal.returns-in_err-may_enter
returns-in_err-may_enter c =
    let plan = planned c.args.plan.now in
    let answers : result_err c.from_residual.result ≡ Some c.in_err-may_enter.field-0.0 = grind (arith, common_steps) in
    answers ∙ sym (init_tested _ c.args.self.now c.args.rank c.args.comm plan c.self.view_is c.self.invariant c.is_sound.ensures
    ∙ stops_at_entry (entry_refusals c.args.self.now.queues c.args.rank c.args.comm Persistent plan)
    (full_refusal c.self.inside.arena ∷ []) c.in_err-may_enter.field-0.0 (sym c.in_err-may_enter.ensures))

pub returns-then-not-has_free : goal.returns-then-not-has_free
returns-then-not-has_free c =
    let plan = planned c.args.plan.now in
    sym (init_tested _ c.args.self.now c.args.rank c.args.comm plan c.self.view_is c.self.invariant c.is_sound.ensures
    ∙ (enters (entry_refusals c.args.self.now.queues c.args.rank c.args.comm Persistent plan)
    (full_refusal c.self.inside.arena ∷ []) (sym c.in_ok-may_enter.ensures)
    ∙ at_free c.self.inside.arena c.has_free.result false c.has_free.ensures c.if-not-has_free.true))

pub returns : goal.returns
returns c =
    let plan = planned c.args.plan.now in
    sym (init_tested _ c.args.self.now c.args.rank c.args.comm plan c.self.view_is c.self.invariant c.is_sound.ensures
    ∙ (enters (entry_refusals c.args.self.now.queues c.args.rank c.args.comm Persistent plan)
    (full_refusal c.self.inside.arena ∷ []) (sym c.in_ok-may_enter.ensures)
    ∙ at_free c.self.inside.arena c.has_free.result true c.has_free.ensures c.if-not-has_free.false))
