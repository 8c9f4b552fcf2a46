use Rattle.std.proofs.Common.{◌≡◌, ℕ, List, take, subst, sym}
use Rattle.std.specs.Prelude.{IfSome}
use Rattle.coll_job.proofs.Judging.{answered-explain-read, read-ok, read-err}
use Rattle.coll_job.proofs.pages.explain.Goals as goal

pub returns-clause-judged : goal.returns-clause-judged
returns-clause-judged g c =
    let start = g.R.Read.remaining c.args.reader.now.reader.now in
    let read = subst (λ (text : List ℕ). IfSome start (λ input. text ≡ take 1048577 input)) (sym c.deref.ensures.value) c.in_ok-text.ensures.text in
    read-ok c.explain_read.result start c.deref.result.now read c.explain_read.ensures.judged

pub returns-clause-judged_fault : goal.returns-clause-judged_fault
returns-clause-judged_fault g c =
    let start = g.R.Read.remaining c.args.reader.now.reader.now in
    let read = subst (λ (text : List ℕ). IfSome start (λ input. text ≡ take 1048577 input)) (sym c.deref.ensures.value) c.in_ok-text.ensures.text in
    read-err c.explain_read.result start c.deref.result.now read c.explain_read.ensures.judged_fault

pub returns-clause-answered : goal.returns-clause-answered
returns-clause-answered g c =
    let start = g.R.Read.remaining c.args.reader.now.reader.now in
    let read = subst (λ (text : List ℕ). IfSome start (λ input. text ≡ take 1048577 input)) (sym c.deref.ensures.value) c.in_ok-text.ensures.text in
    answered-explain-read c.args.explaining.options c.explain_read.result start c.deref.result.now _ _ read c.explain_read.ensures.answered
