use Rattle.std.proofs.Common.{◌≡◌}
use Rattle.coll_kinds.specs.Checks.{counts_below_fit}
use Rattle.coll_kinds.proofs.signature.counts_fit.Given as goal

abbrev pub invariant-loop-i : goal.invariant-loop-i
invariant-loop-i l = l.fits ≡ counts_below_fit l.counts l.n l.i
