use Rattle.std.proofs.Common.{◌<◌, inl, inr, subst, arith, subst, w64}
use Rattle.std.proofs.lemmas.Bool.{cases_lt}
use Rattle.std.specs.Int.{trailing_zeros}
use Rattle.coll_traced.specs.Ranks.{AreNone, IsLowest}
use Rattle.coll_traced.proofs.RankBits.{lowest_is, none_is, not_none}
use Rattle.coll_traced.proofs.ranks.Ranks.lowest.Goals as goal

pub returns : goal.returns
returns c =
    let some : 0 < c.self.inside.0 = elim (cases_lt 0 c.self.inside.0) [
      | inl some ↦ some
      | inr zero ↦ absurd (not_none c.is_empty.result c.if-is_empty.false (c.is_empty.ensures.1
          (subst AreNone c.self.view_is ((none_is c.self.inside.0 c.self.invariant).0 (omega arith)))))
    ] in
    subst (λ ranks. IsLowest ranks (trailing_zeros w64 c.self.inside.0)) c.self.view_is (lowest_is c.self.inside.0 c.self.invariant some)
