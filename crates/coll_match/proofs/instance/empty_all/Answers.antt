use Rattle.std.proofs.Common.{◌≡◌, ◌∙◌, ◌+◌, ap, arith, set, suc}
use Rattle.coll_match.proofs.Shares.{emptied, emptied_all, emptied_next, emptied_none, empty_share}
use Rattle.coll_match.proofs.instance.empty_all.Goals as goal

pub loop-member-init : goal.loop-member-init
loop-member-init c = emptied_none c.args.shares.now

pub loop-member-preserved : goal.loop-member-preserved
loop-member-preserved c =
    let next : suc c.loop-member.member ≡ c.loop-member.member + 1 = omega arith in
    ap (set c.loop-member.shares c.loop-member.member) c.empty.ensures
    ∙ ap (λ shares. set shares c.loop-member.member empty_share) c.loop-member.invariant
    ∙ emptied_next c.loop-member.member c.args.shares.now (omega (arith, c.loop-member-test.true))
    ∙ ap (λ n. emptied n c.args.shares.now) next

pub returns : goal.returns
returns c =
    c.loop-member.invariant
    ∙ emptied_all c.loop-member.member c.args.shares.now (omega (arith, c.loop-member-test.false, c.loop-member.auto.member-end))
