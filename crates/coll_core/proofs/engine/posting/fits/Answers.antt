use Rattle.std.proofs.Common.{◌≡◌, ◌∙◌, ◌==◌, ◌&&◌, true, false, refl, sym, Some, arith}
use Rattle.std.specs.Result.{result_err}
use Rattle.std.proofs.lemmas.Grind.{common_steps}
use Rattle.coll_core.specs.Posts.{planned}
use Rattle.coll_core.proofs.post.FirstRefusal.{fault_is, faultless, mode_is, faulty, wrong_mode, wrong_group, another_n, another_member}
use Rattle.coll_core.proofs.engine.posting.fits.Goals.{then-n-size-via-then-n-size, then-n-size-via-else-n-size+then-member}
use Rattle.coll_core.proofs.engine.posting.fits.Goals as goal

pub returns-in_err-check : goal.returns-in_err-check
returns-in_err-check c =
    let same : result_err c.from_residual.result ≡ Some c.in_err-check.field-0.0 = grind (arith, common_steps) in
    same ∙ sym (faulty (planned c.args.plan.now) c.args.size c.args.member c.args.mode c.in_err-check.field-0.0
    (fault_is c.args.plan.now.sig c.args.plan.now.sig c.args.size c.check.result c.in_err-check.field-0.0 refl c.check.ensures c.in_err-check.was))

pub returns-then-ne : goal.returns-then-ne
returns-then-ne c =
    sym (wrong_mode (planned c.args.plan.now) c.args.size c.args.member c.args.mode
    (faultless c.args.plan.now.sig c.args.plan.now.sig c.args.size c.check.result c.in_ok-check.field-0 refl c.check.ensures c.in_ok-check.was)
    (mode_is c.sig.result.now c.args.plan.now.sig c.args.mode c.ne.result true c.sig.ensures.sig c.ne.ensures c.if-ne.true))

pub returns-then-n-size : goal.returns-then-n-size
returns-then-n-size c =
    let p = c.args.plan.now in
    let other : ((p.n == c.args.size) && (p.member == c.args.member)) ≡ false = elim c.then-n-size.branch [
      | then-n-size-via-then-n-size w ↦ another_n p.n c.args.size p.member c.args.member (λ e. w.if-n-size.true (c.n.ensures.n ∙ e))
      | then-n-size-via-else-n-size+then-member w ↦ another_member p.n c.args.size p.member c.args.member (λ e. w.if-member.true (w.member.ensures.member ∙ e))
    ] in
    sym (wrong_group (planned p) c.args.size c.args.member c.args.mode
    (faultless p.sig p.sig c.args.size c.check.result c.in_ok-check.field-0 refl c.check.ensures c.in_ok-check.was)
    (mode_is c.sig.result.now p.sig c.args.mode c.ne.result false c.sig.ensures.sig c.ne.ensures c.if-ne.false) other)
