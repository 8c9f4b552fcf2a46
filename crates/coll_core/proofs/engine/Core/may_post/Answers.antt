use Rattle.std.proofs.Common.{◌≡◌, ◌∙◌, ◌∷◌, [], length, true, false, sym, arith, Some}
use Rattle.std.specs.Result.{result_err}
use Rattle.std.proofs.lemmas.Grind.{common_steps}
use Rattle.coll_kinds.specs.declared.kind.Mode.TheVariants.{Once}
use Rattle.coll_machine.specs.Refusals.{wrong_length}
use Rattle.coll_refinement.specs.Engines.{entry_refusals}
use Rattle.coll_refinement.proofs.engine.Statements.{full_refusal}
use Rattle.coll_core.specs.Posts.{planned}
use Rattle.coll_core.proofs.post.Tests.{post_tested, stops_at_entry, enters, misses, right_length, at_free}
use Rattle.coll_core.proofs.engine.Core.may_post.Goals as goal

pub returns-in_err-may_enter-clause-refused : goal.returns-in_err-may_enter-clause-refused
returns-in_err-may_enter-clause-refused c =
    let plan = planned c.args.offer.now.plan in
    let bytes = c.args.offer.now.bytes in
    let answers : result_err c.from_residual.result ≡ Some c.in_err-may_enter.field-0.0 = grind (arith, common_steps) in
    answers ∙ sym (post_tested _ c.args.self.now c.args.rank c.args.comm plan bytes c.self.view_is c.self.invariant c.is_sound.ensures
    ∙ stops_at_entry (entry_refusals c.args.self.now.queues c.args.rank c.args.comm Once plan)
    (wrong_length plan.sig plan.n plan.member bytes ∷ full_refusal c.self.inside.arena ∷ []) c.in_err-may_enter.field-0.0 (sym c.in_err-may_enter.ensures))

pub returns-then-got-want-clause-refused : goal.returns-then-got-want-clause-refused
returns-then-got-want-clause-refused c =
    let plan = planned c.args.offer.now.plan in
    let bytes = c.args.offer.now.bytes in
    let long : c.len-got.result ≡ length c.args.offer.now.bytes = omega arith in
    sym (post_tested _ c.args.self.now c.args.rank c.args.comm plan bytes c.self.view_is c.self.invariant c.is_sound.ensures
    ∙ (enters (entry_refusals c.args.self.now.queues c.args.rank c.args.comm Once plan)
    (wrong_length plan.sig plan.n plan.member bytes ∷ full_refusal c.self.inside.arena ∷ []) (sym c.in_ok-may_enter.ensures)
    ∙ misses plan bytes c.want-want.result c.len-got.result c.want-want.ensures long (full_refusal c.self.inside.arena ∷ []) c.if-got-want.true))

pub returns-then-not-has_free-clause-refused : goal.returns-then-not-has_free-clause-refused
returns-then-not-has_free-clause-refused c =
    let plan = planned c.args.offer.now.plan in
    let bytes = c.args.offer.now.bytes in
    let long : c.len-got.result ≡ length c.args.offer.now.bytes = omega arith in
    sym (post_tested _ c.args.self.now c.args.rank c.args.comm plan bytes c.self.view_is c.self.invariant c.is_sound.ensures
    ∙ (enters (entry_refusals c.args.self.now.queues c.args.rank c.args.comm Once plan)
    (wrong_length plan.sig plan.n plan.member bytes ∷ full_refusal c.self.inside.arena ∷ []) (sym c.in_ok-may_enter.ensures)
    ∙ (right_length plan bytes c.want-want.result c.len-got.result c.want-want.ensures long (full_refusal c.self.inside.arena ∷ []) c.if-got-want.false
    ∙ at_free c.self.inside.arena c.has_free.result false c.has_free.ensures c.if-not-has_free.true)))

pub returns-clause-refused : goal.returns-clause-refused
returns-clause-refused c =
    let plan = planned c.args.offer.now.plan in
    let bytes = c.args.offer.now.bytes in
    let long : c.len-got.result ≡ length c.args.offer.now.bytes = omega arith in
    sym (post_tested _ c.args.self.now c.args.rank c.args.comm plan bytes c.self.view_is c.self.invariant c.is_sound.ensures
    ∙ (enters (entry_refusals c.args.self.now.queues c.args.rank c.args.comm Once plan)
    (wrong_length plan.sig plan.n plan.member bytes ∷ full_refusal c.self.inside.arena ∷ []) (sym c.in_ok-may_enter.ensures)
    ∙ (right_length plan bytes c.want-want.result c.len-got.result c.want-want.ensures long (full_refusal c.self.inside.arena ∷ []) c.if-got-want.false
    ∙ at_free c.self.inside.arena c.has_free.result true c.has_free.ensures c.if-not-has_free.false)))
