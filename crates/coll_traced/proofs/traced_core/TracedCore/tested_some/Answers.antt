use Rattle.coll_traced.proofs.Telling.{some_appended, refuses_list, some_count, some_waits_stay, tests_some}
use Rattle.coll_traced.proofs.traced_core.TracedCore.tested_some.Goals as goal

pub returns-in-Ok-clause-refused : goal.returns-in-Ok-clause-refused
returns-in-Ok-clause-refused g c =
    refuses_list _ c.args.self.now c.args.mine.now c.args.rank c.args.requests.now _
    (c.keeps_legal.ensures.setting, c.keeps_legal.ensures.legal, c.requires.made) c.in-Ok.ensures.refused

pub returns-in-Err-clause-refused : goal.returns-in-Err-clause-refused
returns-in-Err-clause-refused g c =
    refuses_list _ c.args.self.now c.args.mine.now c.args.rank c.args.requests.now _
    (c.keeps_legal.ensures.setting, c.keeps_legal.ensures.legal, c.requires.made) c.in-Err.ensures.refused

pub returns-in-Ok-clause-told : goal.returns-in-Ok-clause-told
returns-in-Ok-clause-told g c =
    let e = c.in-Ok.ensures in
    tests_some _ c.args.self.now c.test_some_on.new.core c.args.mine.now c.test_some_on.new.own c.args.rank c.args.requests.now
    c.test_some_on.new.requests c.args.out.now c.test_some_on.new.out c.in-Ok.count _ _
    (c.keeps_legal.ensures.setting, c.keeps_legal.ensures.legal, c.requires.made) e.refused
    e.undefined e.count e.inactive e.completes e.requests c.moment-before.ensures c.since.ensures

pub returns-in-Ok-clause-counted : goal.returns-in-Ok-clause-counted
returns-in-Ok-clause-counted g c =
    let e = c.in-Ok.ensures in
    some_count c.args.self.now c.test_some_on.new.core c.args.mine.now c.test_some_on.new.own c.args.rank c.args.requests.now
    c.args.out.now c.test_some_on.new.out c.in-Ok.count e.count e.completes

pub returns-in-Ok-clause-waits : goal.returns-in-Ok-clause-waits
returns-in-Ok-clause-waits g c =
    let e = c.in-Ok.ensures in
    some_waits_stay c.args.self.now c.test_some_on.new.core c.args.mine.now c.test_some_on.new.own c.args.rank c.args.requests.now
    c.test_some_on.new.requests c.args.out.now c.test_some_on.new.out c.in-Ok.count e.inactive e.completes

pub returns-in-Ok-clause-appended : goal.returns-in-Ok-clause-appended
returns-in-Ok-clause-appended g c =
    let e = c.in-Ok.ensures in
    some_appended c.args.self.now c.test_some_on.new.core c.args.mine.now c.test_some_on.new.own c.args.rank c.args.requests.now
    c.test_some_on.new.requests c.args.out.now c.test_some_on.new.out c.in-Ok.count _ _ e.inactive e.completes
    c.moment-before.ensures c.since.ensures
