use Rattle.std.proofs.Common.{◌↔◌, IsTrue, subst, nat_eq}
use Rattle.coll_traced.specs.Ranks.{AreNone}
use Rattle.coll_traced.proofs.RankBits.{is_none}
use Rattle.coll_traced.proofs.ranks.Ranks.is_empty.Goals as goal

pub returns : goal.returns
returns c = subst (λ ranks. IsTrue (nat_eq c.self.inside.0 0) ↔ AreNone ranks) c.self.view_is (is_none c.self.inside.0 c.self.invariant)
