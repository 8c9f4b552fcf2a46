use Rattle.std.proofs.Common.{refl}
use Rattle.worzsunab.proofs.Padding.{padded_by}
use Rattle.worzsunab.proofs.call.counts_of.Goals as goal

pub returns-clause-is : goal.returns-clause-is
returns-clause-is c = padded_by c.copy_from_slice.new.self c.args.counts.now c.copy_from_slice.ensures.after

pub returns-clause-few : goal.returns-clause-few
returns-clause-few c = (λ some. c.if-counts-gt-MAX_RANKS.false, λ few. refl)
