use Rattle.std.proofs.Common.{◌≡◌, ℕ, List, take, subst, sym}
use Rattle.std.specs.Prelude.{IfSome}
use Rattle.coll_job.specs.Endings.{status_in}
use Rattle.coll_job.proofs.Judging.{status-read}
use Rattle.coll_job.proofs.carrying_out.draw_run.Goals as goal

pub returns-clause-judged : goal.returns-clause-judged
returns-clause-judged g c =
    let start = g.R.Read.remaining c.args.reader.now.reader.now in
    let read = subst (λ (text : List ℕ). IfSome start (λ input. text ≡ take 1048577 input)) (sym c.deref.ensures.value) c.in_ok-text.ensures.text in
    status-read start c.deref.result.now (status_in c.draw_recorded.result) read c.draw_recorded.ensures.judged
