use Rattle.coll_traced.proofs.Telling.{one_appended, any_counted, refuses_list, tests_any, was_unfinished}
use Rattle.coll_traced.proofs.traced_core.TracedCore.tested_any.Goals as goal

pub returns-in-Ok-clause-refused : goal.returns-in-Ok-clause-refused
returns-in-Ok-clause-refused g c =
    refuses_list _ c.args.self.now c.args.mine.now c.args.rank c.args.requests.now _
    (c.keeps_legal.ensures.setting, c.keeps_legal.ensures.legal, c.requires) c.in-Ok.ensures.refused

pub returns-in-Err-clause-refused : goal.returns-in-Err-clause-refused
returns-in-Err-clause-refused g c =
    refuses_list _ c.args.self.now c.args.mine.now c.args.rank c.args.requests.now _
    (c.keeps_legal.ensures.setting, c.keeps_legal.ensures.legal, c.requires) c.in-Err.ensures.refused

pub returns-in-Ok-clause-told : goal.returns-in-Ok-clause-told
returns-in-Ok-clause-told g c =
    let e = c.in-Ok.ensures in
    tests_any _ c.args.self.now c.test_any_on.new.core c.args.mine.now c.test_any_on.new.own c.args.rank c.args.requests.now
    c.test_any_on.new.requests _ _ _ (c.keeps_legal.ensures.setting, c.keeps_legal.ensures.legal, c.requires) e.refused
    e.undefined e.lowest e.completes e.requests
    c.moment-before.ensures c.since.ensures

pub returns-in-Ok-clause-counted : goal.returns-in-Ok-clause-counted
returns-in-Ok-clause-counted g c =
    any_counted c.args.self.now c.test_any_on.new.core c.args.mine.now c.test_any_on.new.own c.args.rank c.args.requests.now _
    c.in-Ok.ensures.lowest c.in-Ok.ensures.completes

pub returns-in-Ok-clause-appended : goal.returns-in-Ok-clause-appended
returns-in-Ok-clause-appended g c =
    one_appended c.args.self.now c.test_any_on.new.core c.args.mine.now c.test_any_on.new.own _ _ _ c.in-Ok.ensures.completes
    c.moment-before.ensures c.since.ensures

pub returns-in-Ok-clause-unfinished : goal.returns-in-Ok-clause-unfinished
returns-in-Ok-clause-unfinished g c = λ none. was_unfinished _ _ _ _ _ _ _ (returns-in-Ok-clause-told g c) none
