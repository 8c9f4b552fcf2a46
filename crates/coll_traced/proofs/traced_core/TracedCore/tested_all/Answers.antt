use Rattle.std.proofs.Common.{arith}
use Rattle.coll_traced.proofs.Telling.{all_appended, all_count, all_waits_stay, had_pending, refuses_list, tests_all}
use Rattle.coll_traced.proofs.traced_core.TracedCore.tested_all.Goals as goal

pub returns-in-Ok-clause-refused : goal.returns-in-Ok-clause-refused
returns-in-Ok-clause-refused g c =
    refuses_list _ c.args.self.now c.args.mine.now c.args.rank c.args.requests.now _
    (c.keeps_legal.ensures.setting, c.keeps_legal.ensures.legal, c.requires.made) c.in-Ok.ensures.refused

pub returns-in-Err-clause-refused : goal.returns-in-Err-clause-refused
returns-in-Err-clause-refused g c =
    refuses_list _ c.args.self.now c.args.mine.now c.args.rank c.args.requests.now _
    (c.keeps_legal.ensures.setting, c.keeps_legal.ensures.legal, c.requires.made) c.in-Err.ensures.refused

pub returns-in-Ok-clause-told : goal.returns-in-Ok-clause-told
returns-in-Ok-clause-told g c =
    let e = c.in-Ok.ensures in
    tests_all _ c.args.self.now c.test_all_on.new.core c.args.mine.now c.test_all_on.new.own c.args.rank c.args.requests.now
    c.test_all_on.new.requests c.args.out.now c.test_all_on.new.out c.in-Ok.flag _ _
    (c.keeps_legal.ensures.setting, c.keeps_legal.ensures.legal, c.requires.made) e.refused e.flag
    e.unfinished e.completes e.requests c.moment-before.ensures c.since.ensures

pub returns-in-Ok-clause-counted : goal.returns-in-Ok-clause-counted
returns-in-Ok-clause-counted g c =
    let e = c.in-Ok.ensures in
    let both = all_count c.args.self.now c.test_all_on.new.core c.args.mine.now c.test_all_on.new.own c.args.rank c.args.requests.now
    c.test_all_on.new.requests c.args.out.now c.test_all_on.new.out c.in-Ok.flag e.unfinished e.completes in
    let before = c.args.out.now.ok.0 in
    let after = c.test_all_on.new.out.ok.0 in
    omega (arith, both, before, after)

pub returns-in-Ok-clause-waits : goal.returns-in-Ok-clause-waits
returns-in-Ok-clause-waits g c =
    let e = c.in-Ok.ensures in
    all_waits_stay c.args.self.now c.test_all_on.new.core c.args.mine.now c.test_all_on.new.own c.args.rank c.args.requests.now
    c.test_all_on.new.requests c.args.out.now c.test_all_on.new.out c.in-Ok.flag e.unfinished e.completes

pub returns-in-Ok-clause-appended : goal.returns-in-Ok-clause-appended
returns-in-Ok-clause-appended g c =
    let e = c.in-Ok.ensures in
    all_appended c.args.self.now c.test_all_on.new.core c.args.mine.now c.test_all_on.new.own c.args.rank c.args.requests.now
    c.test_all_on.new.requests c.args.out.now c.test_all_on.new.out c.in-Ok.flag _ _ e.unfinished e.completes
    c.moment-before.ensures c.since.ensures

pub returns-in-Ok-clause-pending : goal.returns-in-Ok-clause-pending
returns-in-Ok-clause-pending g c = λ none. had_pending _ _ _ _ _ _ _ _ _ (returns-in-Ok-clause-told g c) none
