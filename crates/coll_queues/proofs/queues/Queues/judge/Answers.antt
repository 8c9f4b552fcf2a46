use Rattle.std.proofs.Common.{◌≡◌, ◌∙◌, sym, subst}
use Rattle.std.specs.Prelude.{IfOk}
use Rattle.coll_queues.proofs.Calls.{in_group, judged, place_is}
use Rattle.coll_queues.proofs.queues.Queues.judge.Goals as goal

pub judge-requires : goal.judge-requires
judge-requires c =
    in_group _ _ _ c.self.view_is c.args.comm c.args.rank c.in_ok-member.member _ (sym c.in_ok-member.ensures.refused)
    c.in_ok-member.ensures.member c.index.ensures

pub returns-clause-refused : goal.returns-clause-refused
returns-clause-refused c =
    c.judge.ensures.refused
    ∙ sym (judged _ _ _ c.self.view_is c.args.comm c.args.rank c.in_ok-member.member _ (sym c.in_ok-member.ensures.refused)
    c.in_ok-member.ensures.member c.index.ensures c.args.sig.now)

pub returns-clause-place : goal.returns-clause-place
returns-clause-place c =
    subst (λ n. IfOk c.judge.result (λ place. place ≡ n))
    (place_is _ _ _ c.self.view_is c.args.comm c.args.rank c.in_ok-member.member _ (sym c.in_ok-member.ensures.refused)
    c.in_ok-member.ensures.member c.index.ensures) c.judge.ensures.place
