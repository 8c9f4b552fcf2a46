-- Worked rows of the allreduce, computed.
use Rattle.std.specs.Prelude.{◌≡◌, ℕ, List, [], ◌∷◌, refl}
use Rattle.coll_kinds.specs.declared.kind.Kind.TheVariants.{Allreduce}
use Rattle.coll_kinds.specs.declared.operation.Op.TheVariants.{LastNz}
use Rattle.coll_kinds.specs.declared.datatype.Datatype.TheVariants.{I32}
use Rattle.coll_ops.specs.Values.{row_of}
use Rattle.coll_sched.specs.declared.action.Action.TheVariants.{Combine}
use Rattle.coll_sched.specs.Common.{front, behind, result_at, family_exchanges}
use Rattle.coll_plans.specs.declared.recursive_doubling_fold.FoldPart.TheVariants.{Lower, Upper, Alone}
use Rattle.coll_plans.specs.RecursiveDoublingHypercube.{dimension, extra, fold_part, corner, lowest, across, mate}
use Rattle.coll_plans.specs.RecursiveDoubling.{joined, allreduce_family, most_trades}
use Rattle.coll_plans.specs.PlanRows.{last_nonzero}

-- six members are a square, of which the first two corners stand for two each: 0 1, 2 3, 4, 5
square_of_six : dimension 6 ≡ 2
unfolding dimension
square_of_six = refl

two_more : extra 6 ≡ 2
unfolding dimension
two_more = refl

cube_of_eight : dimension 8 ≡ 3
unfolding dimension
cube_of_eight = refl

first_acts_for_two : fold_part 2 0 ≡ Lower
first_acts_for_two = refl

fourth_gives : fold_part 2 3 ≡ Upper
fourth_gives = refl

fifth_is_alone : fold_part 2 4 ≡ Alone
fifth_is_alone = refl

corner_of_the_last : corner 2 5 ≡ 3
corner_of_the_last = refl

lowest_of_the_second : lowest 2 1 ≡ 2
lowest_of_the_second = refl

-- across the first dimension corners 0 and 1 exchange, and 2 and 3; across the second 0 and 2, and 1 and 3
across_the_first : across 3 1 ≡ 2
across_the_first = refl

across_the_second : across 3 2 ≡ 1
across_the_second = refl

last_exchanges_with_the_third : mate 2 2 5 ≡ 2
last_exchanges_with_the_third = refl

-- what came of a lower corner is the left operand
joins_in_front : joined LastNz I32 4 3 2 ≡ Combine LastNz I32 (behind 4) (front 4) (front 4) ∷ []
joins_in_front = refl

joins_behind : joined LastNz I32 4 1 2 ≡ Combine LastNz I32 (front 4) (behind 4) (front 4) ∷ []
joins_behind = refl

-- of five members that give 3, 0, 5, 0, 0 each gets 5
abbrev given : ℕ → List ℕ
given r = row_of ((3 ∷ []) ∷ (0 ∷ []) ∷ (5 ∷ []) ∷ (0 ∷ []) ∷ (0 ∷ []) ∷ []) r

upper_is_told : result_at (allreduce_family (last_nonzero Allreduce) 5) given 1 ≡ 5 ∷ []
unfolding dimension
upper_is_told = refl

last_has_it : result_at (allreduce_family (last_nonzero Allreduce) 5) given 4 ≡ 5 ∷ []
unfolding dimension
last_has_it = refl

exchanges_of_six : family_exchanges 6 (allreduce_family (last_nonzero Allreduce) 6) ≡ 4
unfolding dimension
exchanges_of_six = refl

exchanges_of_eight : family_exchanges 8 (allreduce_family (last_nonzero Allreduce) 8) ≡ 3
unfolding dimension
exchanges_of_eight = refl

most_of_six : most_trades 6 ≡ 4
unfolding dimension
most_of_six = refl

most_of_eight : most_trades 8 ≡ 3
unfolding dimension
most_of_eight = refl

most_of_one : most_trades 1 ≡ 0
unfolding dimension
most_of_one = refl
