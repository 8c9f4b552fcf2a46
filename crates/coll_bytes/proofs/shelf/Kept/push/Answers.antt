-- The sum grows by the vector that comes last.
use Rattle.std.proofs.Common.{arith, vec_capacity}
use Rattle.std.proofs.lemmas.List.Sums.{sum_by_push}
use Rattle.coll_bytes.proofs.shelf.Kept.push.Goals as goal

pub invariant_of-self : goal.invariant_of-self
invariant_of-self c = record {
  counted = grind (arith, sum_by_push vec_capacity c.args.self.now.rows.items c.args.row);
  bounded = omega arith;
}
