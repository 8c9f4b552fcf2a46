use Rattle.std.proofs.Common.{◌≡◌}
use Rattle.coll_kinds.specs.Checks.{sizes_fit}
use Rattle.coll_kinds.proofs.signature.Signature.each_size_fits.Given as goal

abbrev pub invariant-loop-r : goal.invariant-loop-r
invariant-loop-r l = l.fits ≡ sizes_fit l.self l.n l.r
