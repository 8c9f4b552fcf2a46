use Rattle.std.proofs.Common.{◌≡◌, length, subst, rules}
use Rattle.coll_kinds.specs.Checks.{counts_below_fit}
use Rattle.coll_kinds.proofs.signature.counts_fit.Goals as goal

pub returns : goal.returns
returns c =
    let last : c.loop-i.i ≡ length c.args.counts.now = search rules in
    subst (λ k. c.loop-i.fits ≡ counts_below_fit c.args.counts.now c.args.n k) last c.loop-i.invariant
