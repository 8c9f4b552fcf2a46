-- Worked rows, computed.
use Rattle.std.specs.Prelude.{◌≡◌, ℕ, List, [], ◌∷◌, Some, None, refl}
use Rattle.coll_kinds.specs.declared.kind.Kind.{Kind}
use Rattle.coll_kinds.specs.declared.kind.Kind.TheVariants.{Reduce, Scan, Exscan}
use Rattle.coll_kinds.specs.declared.kind.Mode.TheVariants.{Once}
use Rattle.coll_kinds.specs.declared.operation.Op.TheVariants.{LastNz}
use Rattle.coll_kinds.specs.declared.datatype.Datatype.TheVariants.{I8, I32}
use Rattle.coll_kinds.specs.declared.signature.Signature.{Signature}
use Rattle.coll_ops.specs.Values.{row_of}
use Rattle.coll_sched.specs.declared.action.Action.TheVariants.{Send, Copy, Combine, Recv}
use Rattle.coll_sched.specs.Common.{result_at, family_exchanges, front, behind, nothing}
use Rattle.coll_trees.specs.Depths.{depth}
use Rattle.coll_plans.specs.DisseminationBarrier.{barrier_round}
use Rattle.coll_plans.specs.PrefixDoubling.{third, shift, join, join_both, scan_family, exscan_family}
use Rattle.coll_plans.specs.Plans.{family, most_exchanges}

-- of three members, member 0 sends to 1 and receives of 2, then sends to 2 and receives of 1
first_of_three : barrier_round 3 1 0 ≡ Send 1 nothing ∷ Recv 2 nothing ∷ []
first_of_three = refl

second_of_three : barrier_round 3 2 0 ≡ Send 2 nothing ∷ Recv 1 nothing ∷ []
second_of_three = refl

-- of five members at distance 2: 1 has nobody below, 2 has both, 3 has nobody above
lowest_shifts : shift 4 5 2 1 ≡ Send 3 (front 4) ∷ []
lowest_shifts = refl

middle_shifts : shift 4 5 2 2 ≡ Send 4 (front 4) ∷ Recv 0 (behind 4) ∷ []
middle_shifts = refl

highest_shifts : shift 4 5 2 3 ≡ Recv 1 (behind 4) ∷ []
highest_shifts = refl

-- what came from below is the left operand
joins_in_front : join LastNz I32 4 2 3 ≡ Combine LastNz I32 (behind 4) (front 4) (front 4) ∷ []
joins_in_front = refl

nothing_came : join LastNz I32 4 2 1 ≡ []
nothing_came = refl

-- in an exscan the first that came is copied, and the later ones join it
first_is_copied :
    join_both LastNz I32 4 1 3 ≡ Copy (behind 4) (third 4) ∷ Combine LastNz I32 (behind 4) (front 4) (front 4) ∷ []
first_is_copied = refl

later_are_joined :
    join_both LastNz I32 4 2 3
    ≡ Combine LastNz I32 (behind 4) (third 4) (third 4) ∷ Combine LastNz I32 (behind 4) (front 4) (front 4) ∷ []
later_are_joined = refl

-- of three members that give 3, 0, 5 the last nonzero row up to the member's own, and before it
abbrev pub last_nonzero : Kind → Signature
last_nonzero kind = record { kind = kind; mode = Once; root = 0; op = Some LastNz; ty = I8; count = 1; each = None }

abbrev given : ℕ → List ℕ
given r = row_of ((3 ∷ []) ∷ (0 ∷ []) ∷ (5 ∷ []) ∷ []) r

scanned : result_at (scan_family (last_nonzero Scan) 3) given 1 ≡ 3 ∷ []
unfolding depth
scanned = refl

scanned_to_the_last : result_at (scan_family (last_nonzero Scan) 3) given 2 ≡ 5 ∷ []
unfolding depth
scanned_to_the_last = refl

first_gets_nothing : result_at (exscan_family (last_nonzero Exscan) 3) given 0 ≡ []
unfolding depth
first_gets_nothing = refl

last_leaves_its_own_out : result_at (exscan_family (last_nonzero Exscan) 3) given 2 ≡ 3 ∷ []
unfolding depth
last_leaves_its_own_out = refl

exchanges_of_five : family_exchanges 5 (exscan_family (last_nonzero Exscan) 5) ≡ 3
unfolding depth
exchanges_of_five = refl

-- the kind picks the family; a single member exchanges nothing
scan_is_picked : family (last_nonzero Scan) 3 ≡ scan_family (last_nonzero Scan) 3
unfolding family
scan_is_picked = refl

alone : most_exchanges (last_nonzero Reduce) 1 ≡ 0
unfolding depth
alone = refl
