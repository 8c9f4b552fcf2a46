use Rattle.std.proofs.Common.{subst, bit_or}
use Rattle.std.proofs.lemmas.Nat.{or_lt}
use Rattle.coll_traced.specs.Ranks.{AreWith}
use Rattle.coll_traced.proofs.RankBits.{with_is}
use Rattle.coll_traced.proofs.ranks.Ranks.with.Goals as goal

pub returns : goal.returns
returns c = λ below.
    let inside = with_is c.self.inside.0 c.args.rank c.bit.result below (c.bit.ensures below) in
    subst (λ ranks. AreWith ranks c.args.rank (bit_or c.self.inside.0 c.bit.result)) c.self.view_is inside

pub invariant_of-result : goal.invariant_of-result
invariant_of-result c = or_lt 64 c.self.inside.0 c.bit.result c.self.invariant c.bit.type_inv
