use Rattle.std.proofs.Common.{arith}
use Rattle.coll_match.specs.Held.{given_in}
use Rattle.coll_match.proofs.CombinedRows.{given_more, given_seen}
use Rattle.coll_match.proofs.instance.Instance.have_given.Goals as goal

pub loop-member-preserved : goal.loop-member-preserved
loop-member-preserved c =
    given_more (given_in c.args.self.now) c.args.first c.loop-member.member c.loop-member.invariant
    (given_seen c.given.result (given_in c.args.self.now c.loop-member.member) c.if-is_none.ensures c.given.ensures)

pub returns : goal.returns
returns c is m low high = c.loop-member.invariant m low (omega (arith, high))
