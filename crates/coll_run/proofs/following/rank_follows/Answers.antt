use Rattle.coll_run.proofs.Comparing.{begins, goes-on, over, stops}
use Rattle.coll_run.proofs.following.rank_follows.Goals as goal

pub loop-issued-init : goal.loop-issued-init
loop-issued-init c =
    begins c.args.history.now c.args.rank c.commands-commands.result.now c.new-comparison.result _ c.commands-commands.ensures.commands c.new-comparison.ensures

pub loop-issued-preserved : goal.loop-issued-preserved
loop-issued-preserved c =
    goes-on c.args.rank c.commands-commands.result.now c.loop-issued.issued-index c.issued-item.result c.in_ok-goes_on.field-0 c.loop-issued.comparison
    c.goes_on.new.comparison _ c.loop-issued-test.true c.issued-item.is c.in_ok-goes_on.ensures c.loop-issued.invariant c.if-not-branch.false

pub returns-then-not-branch : goal.returns-then-not-branch
returns-then-not-branch c =
    stops c.args.rank c.commands-commands.result.now c.loop-issued.issued-index c.issued-item.result c.in_ok-goes_on.field-0 c.loop-issued.comparison
    c.goes_on.new.comparison _ c.loop-issued-test.true c.issued-item.is c.in_ok-goes_on.ensures c.loop-issued.invariant c.if-not-branch.true

pub returns : goal.returns
returns c =
    over c.args.rank c.commands-commands.result.now c.loop-issued.issued-index c.loop-issued.comparison c.is_over.result _ c.loop-issued-test.false
    c.loop-issued.invariant c.is_over.ensures
