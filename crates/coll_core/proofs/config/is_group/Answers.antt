use Rattle.std.proofs.Common.{◌≡◌, ◌∙◌, ◌<◌, ℕ, false, not, Option, Some, None, ap, sym, eqb, slice_index, arith}
use Rattle.std.proofs.lemmas.Bool.{false≢true}
use Rattle.std.proofs.lemmas.Bool.Decides.{nat_tests}
use Rattle.std.specs.Option.{option_eq}
use Rattle.coll_kinds.specs.Groups.{member_of}
use Rattle.coll_core.proofs.values.Below.{below_suc}
use Rattle.coll_core.proofs.config.is_group.Goals as goal

same_number : (y k : ℕ) → false ≡ not (eqb y k) → y ≡ k
same_number y k e = grind (arith, nat_tests)

same : (x : Option ℕ) (k : ℕ) → false ≡ not (option_eq eqb x (Some k)) → x ≡ Some k
same None k e = absurd (false≢true e)
same (Some y) k e = ap Some (same_number y k e)

pub loop-member-preserved : goal.loop-member-preserved
loop-member-preserved c =
    let at = same c.member_of.result c.loop-member.member c.if-ne.ensures in
    below_suc
    (λ m. (slice_index c.args.group.now m < c.args.ranks)
    × (member_of (slice_index c.args.group.now m) c.args.group.now ≡ Some m))
    c.loop-member.member c.loop-member.invariant
    (c.if-group-member.false, sym c.member_of.ensures ∙ at)
