use Rattle.std.proofs.Common.{◌≡◌, ◌∙◌, sym, Some, arith}
use Rattle.std.specs.Result.{result_err}
use Rattle.std.proofs.lemmas.Grind.{common_steps}
use Rattle.coll_queues.proofs.Judging.{faultless, refused_check}
use Rattle.coll_queues.proofs.posting_lists.PostingLists.judge.Goals as goal

pub returns-in_err-check-clause-refused : goal.returns-in_err-check-clause-refused
returns-in_err-check-clause-refused c =
    let same : result_err c.from_residual.result ≡ Some c.in_err-check.field-0.0 = grind (arith, common_steps) in
    same ∙ sym (refused_check c.args.self.now c.args.member c.args.sig.now c.args.places c.check.result c.size.result 0
    c.size.ensures c.check.ensures _ c.in_err-check.was)

pub judge_checked-requires-clause-checked : goal.judge_checked-requires-clause-checked
judge_checked-requires-clause-checked c = faultless c.args.sig.now c.size.result _ c.check.result _ c.size.ensures c.check.ensures c.in_ok-check.was
