use Rattle.std.proofs.Common.{◌≡◌}
use Rattle.coll_match.proofs.Shares.{emptied}
use Rattle.coll_match.proofs.instance.empty_all.Given as goal

abbrev pub invariant-loop-member : goal.invariant-loop-member
invariant-loop-member l = l.shares ≡ emptied l.member l.fn.shares
