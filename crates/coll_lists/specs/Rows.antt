-- Worked rows.
use Rattle.std.specs.Prelude.{◌≡◌, [], ◌∷◌, Some, None, ℕ, Option}
use Rattle.std.proofs.Common.{refl}
use Rattle.coll_lists.specs.Layouts.{Layout, list_of, sequence}
use Rattle.coll_lists.specs.Moves.{moved_back, moved_front}
use Rattle.coll_lists.specs.Neighbours.{after_in, before_in}
use Rattle.coll_lists.specs.WellLinked.{Follows, reads}

-- five nodes and three lists: 2 and 0 move to the back of list 1, 4 to its front, and 2 to its back again
abbrev pub moved_of_five : Layout
moved_of_five =
    moved_back 2 1 (moved_front 4 1 (moved_back 0 1 (moved_back 2 1
    ((0 ∷ 1 ∷ 2 ∷ 3 ∷ 4 ∷ []) ∷ [] ∷ [] ∷ []))))

pub moves_of_five : moved_of_five ≡ (1 ∷ 3 ∷ []) ∷ (4 ∷ 0 ∷ 2 ∷ []) ∷ [] ∷ []
moves_of_five = refl

pub before_zero : before_in 0 (sequence moved_of_five 1) ≡ Some 4
before_zero = refl

pub after_two : after_in 2 (sequence moved_of_five 1) ≡ None
after_two = refl

pub list_of_two : list_of moved_of_five 2 ≡ 1
list_of_two = refl

-- two nodes, 0 and 1, on one list, whose head has index 2: the previous links lead from the head to 1, to 0 and back
pub reads_back : Follows (reads 2 (2 ∷ 0 ∷ 1 ∷ [])) (reads 2 (2 ∷ 0 ∷ 1 ∷ []) 2) (1 ∷ 0 ∷ [])
reads_back = (refl, (refl, refl))

-- where the previous link of 1 leads past 0, the list doesn't read backwards
pub broken_back : Follows (reads 2 (2 ∷ 2 ∷ 1 ∷ [])) (reads 2 (2 ∷ 2 ∷ 1 ∷ []) 2) (1 ∷ 0 ∷ []) → ⊥
broken_back follows = let led : ◌≡◌ {A = Option ℕ} None (Some 0) = follows.1.0 in cc
