use Rattle.std.proofs.Common.{◌↔◌, IsTrue, not, subst, nat_eq, bit_and}
use Rattle.coll_traced.specs.Ranks.{IsIn}
use Rattle.coll_traced.proofs.RankBits.{has_is}
use Rattle.coll_traced.proofs.ranks.Ranks.has.Goals as goal

pub returns : goal.returns
returns c = λ below.
    let inside = has_is c.self.inside.0 c.args.rank c.bit.result below (c.bit.ensures below) in
    subst (λ ranks. IsTrue (not (nat_eq (bit_and c.self.inside.0 c.bit.result) 0)) ↔ IsIn ranks c.args.rank) c.self.view_is inside
