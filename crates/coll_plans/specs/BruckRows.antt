-- Worked rows of the allgather, computed: blocks of one byte.
use Rattle.std.specs.Prelude.{◌≡◌, ℕ, List, [], ◌∷◌, refl}
use Rattle.coll_ops.specs.Values.{row_of}
use Rattle.coll_sched.specs.declared.action.Action.TheVariants.{Send, Copy, Recv}
use Rattle.coll_sched.specs.Families.{result_at, family_exchanges}
use Rattle.coll_trees.specs.Depths.{depth}
use Rattle.coll_plans.specs.BruckAllgather.{blocks_at, bruck_step, rotation, allgather_by}

-- of five members, member 1 sends two blocks to 4 and receives two of 3, and then one to 2 and one of 0
two_blocks : bruck_step 1 5 2 1 ≡ Send 4 (blocks_at 1 0 2) ∷ Recv 3 (blocks_at 1 2 2) ∷ []
two_blocks = refl

what_is_lacking : bruck_step 1 5 4 1 ≡ Send 2 (blocks_at 1 0 1) ∷ Recv 0 (blocks_at 1 4 1) ∷ []
what_is_lacking = refl

-- it holds the blocks of 1, 2, 3, 4 and 0, and copies the last in front
in_member_order : rotation 1 5 1 ≡ Copy (blocks_at 1 0 4) (blocks_at 1 6 4) ∷ Copy (blocks_at 1 4 1) (blocks_at 1 5 1) ∷ []
in_member_order = refl

abbrev of_three : ℕ → List ℕ
of_three r = row_of ((7 ∷ []) ∷ (8 ∷ []) ∷ (9 ∷ []) ∷ []) r

abbrev of_five : ℕ → List ℕ
of_five r = row_of ((3 ∷ []) ∷ (4 ∷ []) ∷ (5 ∷ []) ∷ (6 ∷ []) ∷ (7 ∷ []) ∷ []) r

first_of_three : result_at (allgather_by 3 1) of_three 0 ≡ 7 ∷ 8 ∷ 9 ∷ []
unfolding depth
first_of_three = refl

second_of_three : result_at (allgather_by 3 1) of_three 1 ≡ 7 ∷ 8 ∷ 9 ∷ []
unfolding depth
second_of_three = refl

third_of_three : result_at (allgather_by 3 1) of_three 2 ≡ 7 ∷ 8 ∷ 9 ∷ []
unfolding depth
third_of_three = refl

first_of_five : result_at (allgather_by 5 1) of_five 0 ≡ 3 ∷ 4 ∷ 5 ∷ 6 ∷ 7 ∷ []
unfolding depth
first_of_five = refl

fourth_of_five : result_at (allgather_by 5 1) of_five 3 ≡ 3 ∷ 4 ∷ 5 ∷ 6 ∷ 7 ∷ []
unfolding depth
fourth_of_five = refl

last_of_five : result_at (allgather_by 5 1) of_five 4 ≡ 3 ∷ 4 ∷ 5 ∷ 6 ∷ 7 ∷ []
unfolding depth
last_of_five = refl

alone : result_at (allgather_by 1 1) of_three 0 ≡ 7 ∷ []
unfolding depth
alone = refl

two_exchanges : family_exchanges 3 (allgather_by 3 1) ≡ 2
unfolding depth
two_exchanges = refl

three_exchanges : family_exchanges 5 (allgather_by 5 1) ≡ 3
unfolding depth
three_exchanges = refl

none_alone : family_exchanges 1 (allgather_by 1 1) ≡ 0
unfolding depth
none_alone = refl
