use Rattle.coll_traced.proofs.Telling.{one_appended, one_counted, one_pending, refuses_one, tests_one, was_pending}
use Rattle.coll_traced.proofs.traced_core.TracedCore.tested.Goals as goal

pub returns-in-Ok-clause-refused : goal.returns-in-Ok-clause-refused
returns-in-Ok-clause-refused g c =
    refuses_one _ c.args.self.now c.args.mine.now c.args.rank c.args.request.now _
    (c.keeps_legal.ensures.setting, c.keeps_legal.ensures.legal, c.requires) c.in-Ok.ensures.refused

pub returns-in-Err-clause-refused : goal.returns-in-Err-clause-refused
returns-in-Err-clause-refused g c =
    refuses_one _ c.args.self.now c.args.mine.now c.args.rank c.args.request.now _
    (c.keeps_legal.ensures.setting, c.keeps_legal.ensures.legal, c.requires) c.in-Err.ensures.refused

pub returns-in-Ok-clause-told : goal.returns-in-Ok-clause-told
returns-in-Ok-clause-told g c =
    let e = c.in-Ok.ensures in
    tests_one _ c.args.self.now c.test_on.new.core c.args.mine.now c.test_on.new.own c.args.rank c.args.request.now
    c.test_on.new.request _ _ _ _ (c.keeps_legal.ensures.setting, c.keeps_legal.ensures.legal, c.requires) e.refused e.flag e.outcome e.completes e.request
    c.moment-before.ensures c.since.ensures

pub returns-in-Ok-clause-counted : goal.returns-in-Ok-clause-counted
returns-in-Ok-clause-counted g c =
    one_counted c.args.self.now c.test_on.new.core c.args.mine.now c.test_on.new.own c.args.rank c.args.request.now _
    c.in-Ok.ensures.outcome c.in-Ok.ensures.completes

pub returns-in-Ok-clause-appended : goal.returns-in-Ok-clause-appended
returns-in-Ok-clause-appended g c =
    one_appended c.args.self.now c.test_on.new.core c.args.mine.now c.test_on.new.own _ _ _ c.in-Ok.ensures.completes
    c.moment-before.ensures c.since.ensures

pub returns-in-Ok-clause-pending : goal.returns-in-Ok-clause-pending
returns-in-Ok-clause-pending g c =
    let e = c.in-Ok.ensures in
    one_pending c.args.self.now c.test_on.new.core c.args.mine.now c.test_on.new.own c.args.rank c.args.request.now
    c.test_on.new.request _ _ e.flag e.outcome e.completes e.request

pub returns-in-Ok-clause-unfinished : goal.returns-in-Ok-clause-unfinished
returns-in-Ok-clause-unfinished g c = λ none. was_pending _ _ _ _ _ _ _ _ (returns-in-Ok-clause-told g c) none
