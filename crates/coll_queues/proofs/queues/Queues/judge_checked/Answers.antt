use Rattle.std.proofs.Common.{◌≡◌, ◌∙◌, sym, subst}
use Rattle.std.specs.Prelude.{IfOk}
use Rattle.coll_queues.proofs.Calls.{judged, known, member_there, place_is, unbroken}
use Rattle.coll_queues.proofs.queues.Queues.judge_checked.Goals as goal

pub judge_checked-requires-clause-member_in : goal.judge_checked-requires-clause-member_in
judge_checked-requires-clause-member_in c = member_there _ _ _ c.self.view_is c.args.comm c.args.member _ c.requires.member_in c.index.ensures

pub judge_checked-requires-clause-checked : goal.judge_checked-requires-clause-checked
judge_checked-requires-clause-checked c =
    unbroken _ _ _ c.self.view_is c.args.comm c.args.member _ c.requires.member_in c.index.ensures c.args.sig.now c.requires.checked

pub returns-clause-refused : goal.returns-clause-refused
returns-clause-refused c = λ rank number_is.
    c.judge_checked.ensures.refused
    ∙ sym (judged _ _ _ c.self.view_is c.args.comm rank c.args.member _
    (known _ _ _ c.self.view_is c.args.comm c.args.member _ c.requires.member_in c.index.ensures rank number_is) number_is c.index.ensures c.args.sig.now)

pub returns-clause-place : goal.returns-clause-place
returns-clause-place c = λ rank number_is.
    subst (λ n. IfOk c.judge_checked.result (λ place. place ≡ n))
    (place_is _ _ _ c.self.view_is c.args.comm rank c.args.member _
    (known _ _ _ c.self.view_is c.args.comm c.args.member _ c.requires.member_in c.index.ensures rank number_is) number_is c.index.ensures)
    c.judge_checked.ensures.place
