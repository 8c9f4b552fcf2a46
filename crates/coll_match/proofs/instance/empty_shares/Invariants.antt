use Rattle.std.proofs.Common.{◌≡◌, replicate, None, []}
use Rattle.coll_match.proofs.instance.empty_shares.Given as goal

abbrev pub invariant-loop-member : goal.invariant-loop-member
invariant-loop-member l = l.made.items ≡ replicate l._member (record { given = None; slot = None; mailbox = [] })
