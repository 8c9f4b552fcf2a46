use Rattle.std.proofs.Common.{◌-◌, subst, bit_and}
use Rattle.coll_traced.specs.Ranks.{AreWithout}
use Rattle.coll_traced.proofs.RankBits.{without_is}
use Rattle.coll_traced.proofs.ranks.Ranks.without.Goals as goal

pub returns : goal.returns
returns c = λ below.
    let left = bit_and c.self.inside.0 (18446744073709551615 - c.bit.result) in
    let inside = without_is c.self.inside.0 c.args.rank c.bit.result c.self.invariant below (c.bit.ensures below) in
    subst (λ ranks. AreWithout ranks c.args.rank left) c.self.view_is inside
