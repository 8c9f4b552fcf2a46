use Rattle.coll_run.proofs.Comparing.{compared, passed}
use Rattle.coll_run.proofs.following.goes_on.Goals as goal

pub returns-then-issued-rank : goal.returns-then-issued-rank
returns-then-issued-rank c = passed c.args.comparison.now c.args.issued.now c.args.rank c.if-issued-rank.true

pub returns : goal.returns
returns c =
    compared c.next_is.result c.args.comparison.now c.next_is.new.self c.args.issued.now c.args.rank _ c.if-issued-rank.false c.shown.ensures
    c.next_is.ensures.ok
