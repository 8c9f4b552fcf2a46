use Rattle.std.proofs.Common.{◌≡◌, ◌∙◌, ap, sym, subst, Some, arith}
use Rattle.std.specs.Result.{result_err}
use Rattle.std.proofs.lemmas.Grind.{common_steps}
use Rattle.coll_queues.specs.Postings.{Postings}
use Rattle.coll_core.specs.Posts.{planned}
use Rattle.coll_kinds.specs.Checks.{broken}
use Rattle.coll_core.proofs.post.FirstRefusal.{unbroken}
use Rattle.coll_core.proofs.post.Tests.{IsMember, entry_misfits, entry_fits, judge_moved}
use Rattle.coll_core.proofs.engine.Core.may_enter.Goals as goal

pub returns-in_err-fits : goal.returns-in_err-fits
returns-in_err-fits c =
    let same = ap (λ p. p.queues) c.self.view_is in
    let m : IsMember c.args.self.now.queues c.args.rank c.args.comm c.in_ok-member.member c.size.result =
    subst (λ (q : Postings). IsMember q c.args.rank c.args.comm c.in_ok-member.member c.size.result) same
    (record { member_is = c.in_ok-member.ensures.member; unrefused = sym c.in_ok-member.ensures.refused; size_is = c.size.ensures }) in
    let answers : result_err c.from_residual-in_err-fits.result ≡ Some c.in_err-fits.field-0.0 = grind (arith, common_steps) in
    answers ∙ sym (entry_misfits c.args.self.now.queues c.args.rank c.args.comm c.in_ok-member.member c.size.result c.args.mode
    (planned c.args.plan.now) m c.in_err-fits.field-0.0 (sym c.in_err-fits.ensures))

pub returns-in_err-judge_checked : goal.returns-in_err-judge_checked
returns-in_err-judge_checked c =
    let same = ap (λ p. p.queues) c.self.view_is in
    let m : IsMember c.args.self.now.queues c.args.rank c.args.comm c.in_ok-member.member c.size.result =
    subst (λ (q : Postings). IsMember q c.args.rank c.args.comm c.in_ok-member.member c.size.result) same
    (record { member_is = c.in_ok-member.ensures.member; unrefused = sym c.in_ok-member.ensures.refused; size_is = c.size.ensures }) in
    let judged =
    c.in_err-judge_checked.ensures.refused c.args.rank c.in_ok-member.ensures.member
    ∙ judge_moved c.self.inside.queues c.args.self.now.queues c.args.rank c.args.comm c.sig.result.now c.args.plan.now.sig same c.sig.ensures.sig in
    let answers : result_err c.from_residual-in_err-judge_checked.result ≡ Some c.in_err-judge_checked.field-0.0 = grind (arith, common_steps) in
    answers ∙ judged ∙ sym (entry_fits c.args.self.now.queues c.args.rank c.args.comm c.in_ok-member.member c.size.result
    c.args.mode (planned c.args.plan.now) m (sym c.in_ok-fits.ensures))

pub judge_checked-requires-clause-checked : goal.judge_checked-requires-clause-checked
judge_checked-requires-clause-checked c =
    let fit = unbroken (planned c.args.plan.now) c.size.result c.in_ok-member.member c.args.mode (sym c.in_ok-fits.ensures) in
    (λ z. broken (c.sig.ensures.sig z) (sym c.size.ensures z)) ∙ fit
