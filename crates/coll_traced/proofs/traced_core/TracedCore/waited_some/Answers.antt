use Rattle.std.proofs.Common.{ap, not, sym, ◌∙◌}
use Rattle.coll_core.specs.Cores.{seen}
use Rattle.coll_traced.proofs.Awaiting.{none_active, some_counted}
use Rattle.coll_traced.proofs.Telling.{refuses_list}
use Rattle.coll_traced.proofs.traced_core.TracedCore.waited_some.Goals as goal
use Rattle.coll_traced.proofs.traced_core.TracedCore.waited_some.Goals.{else-survey-via-then-survey+else-is_none, else-survey-via-else-survey}

pub returns-in-Err-clause-refused : goal.returns-in-Err-clause-refused
returns-in-Err-clause-refused g c =
    refuses_list _ c.args.self.now c.args.mine.now c.args.rank c.args.requests.now _
    (c.keeps_legal.ensures.setting, c.keeps_legal.ensures.legal, c.requires.made) c.in-Err.ensures.refused

pub returns-in-Ok-tested_some-clause-some : goal.returns-in-Ok-tested_some-clause-some
returns-in-Ok-tested_some-clause-some g c =
    let m = seen c.args.self.now.core in
    let list = c.args.requests.now in
    let count = c.in-Ok-tested_some.answer.0 in
    let survey = c.in-Ok.survey in
    elim c.else-survey.branch [
      | else-survey-via-then-survey+else-is_none w ↦
          some_counted m list survey.done count c.in-Ok.ensures.done (w.is_none.ensures ∙ ap not w.if-is_none.false)
          c.in-Ok-tested_some.ensures.count
      | else-survey-via-else-survey w ↦
          none_active m list count (sym c.in-Ok.ensures.active ∙ w.if-survey.false) c.in-Ok-tested_some.ensures.active
    ]
