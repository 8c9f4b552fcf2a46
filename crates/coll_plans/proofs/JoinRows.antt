-- The worked rows of joins.
use Rattle.std.proofs.Common.{◌≡◌, ◌==◌, ℕ, zero, suc, ◌<◌, cond, List, [], ◌∷◌, arith, get_or, map, refl}
use Rattle.std.proofs.lemmas.Bool.{cond_both}
use Rattle.coll_kinds.specs.declared.datatype.Datatype.TheVariants.{I8}
use Rattle.coll_kinds.specs.declared.operation.Op.TheVariants.{Lor}
use Rattle.coll_sched.specs.Common.{behind, front}
use Rattle.coll_plans.specs.Joins.{AreRows}
use Rattle.coll_plans.specs.JoinRows.{ored, given, OthersAreNotJoined}
use Rattle.coll_plans.specs.Plans.{family}
use Rattle.coll_plans.specs.RecursiveDoublingHypercube.{dimension}

bytes : (m : ℕ) (places : List ℕ) (i : ℕ) → get_or (map (λ k. cond (m == k) 1 0) places) i 0 < 256
bytes m [] i = omega arith
bytes m (k ∷ places) zero = cond_both (m == k) 1 0 (λ x. x < 256) (λ e. omega arith) (λ e. omega arith)
bytes m (k ∷ places) (suc i) = bytes m places i

rows : AreRows ored 5 given
rows m low = (refl, bytes m (0 ∷ 1 ∷ 2 ∷ 3 ∷ 4 ∷ []))

differ : ◌≡◌ {A = List ℕ} (1 ∷ 1 ∷ 1 ∷ 0 ∷ 0 ∷ []) (1 ∷ 1 ∷ 0 ∷ 0 ∷ 0 ∷ []) → ⊥
differ e = cc

pub others_are_not_joined : OthersAreNotJoined
unfolding family dimension
others_are_not_joined joins = differ (joins given 0 Lor I8 (behind 5) (front 5) (front 5) rows refl)
