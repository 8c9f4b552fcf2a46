-- Worked rows, computed.
use Rattle.std.specs.Prelude.{◌≡◌, refl}
use Rattle.coll_trees.specs.Depths.{depth}
use Rattle.coll_trees.specs.BinomialTreeBcast.{from_root, member_at, bcast_step}
use Rattle.coll_trees.specs.BinomialTreeReduce.{reduce_step}
use Rattle.coll_trees.specs.declared.binomial_tree_bcast_step.BcastStep.TheVariants.{SendsToChild, ReceivesFromParent, Idles}
use Rattle.coll_trees.specs.declared.binomial_tree_reduce_step.ReduceStep.TheVariants.{SendsToParent, ReceivesFromChild, Rests}

depth_of_one : depth 1 ≡ 0
unfolding depth
depth_of_one = refl

depth_of_five : depth 5 ≡ 3
unfolding depth
depth_of_five = refl

depth_of_sixty_four : depth 64 ≡ 6
unfolding depth
depth_of_sixty_four = refl

-- of six members with root 4 the next is 5, and then 0
behind_the_root : from_root 6 4 0 ≡ 2
behind_the_root = refl

round_the_end : member_at 6 4 2 ≡ 0
round_the_end = refl

-- of six members at distance 4: the first two pass on, the last two get
first_passes : bcast_step 6 0 4 ≡ SendsToChild
first_passes = refl

third_idles : bcast_step 6 2 4 ≡ Idles
third_idles = refl

last_gets : bcast_step 6 5 4 ≡ ReceivesFromParent
last_gets = refl

-- of six members at distance 2: 2 gives to 0, and 4 has nobody above
second_gives : reduce_step 6 2 2 ≡ SendsToParent
second_gives = refl

first_takes : reduce_step 6 0 2 ≡ ReceivesFromChild
first_takes = refl

fourth_rests : reduce_step 6 4 2 ≡ Rests
fourth_rests = refl
