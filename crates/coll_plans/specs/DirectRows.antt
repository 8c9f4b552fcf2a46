-- Worked rows of the direct collectives, computed: three members, blocks of one byte, and rows of two, none and one.
use Rattle.std.specs.Prelude.{◌≡◌, ℕ, zero, suc, List, [], ◌∷◌, refl}
use Rattle.coll_kinds.specs.declared.operation.Op.TheVariants.{LastNz}
use Rattle.coll_kinds.specs.declared.datatype.Datatype.TheVariants.{I8}
use Rattle.coll_ops.specs.Values.{row_of}
use Rattle.coll_sched.specs.declared.action.Action.TheVariants.{Send, Copy, Recv}
use Rattle.coll_sched.specs.Families.{result_at, family_exchanges}
use Rattle.coll_plans.specs.declared.direct_pattern.Pattern.TheVariants.{ToRoot}
use Rattle.coll_plans.specs.DirectExchange.{exchange}
use Rattle.coll_plans.specs.DirectFamilies.{one_block, blocks_from, gather_by, scatter_by, alltoall_by, allgatherv_by, row_exchange, rsblock_by}

-- the root of a gather, member 1, copies its own block and receives the others
root_gathers :
    exchange (ToRoot 1) (one_block 1) (blocks_from 1 1) 3 1
    ≡ Copy (record { at = 0; len = 1 }) (record { at = 2; len = 1 })
    ∷ Recv 0 (record { at = 1; len = 1 })
    ∷ Recv 2 (record { at = 3; len = 1 })
    ∷ []
root_gathers = refl

-- the others send theirs
member_sends : exchange (ToRoot 1) (one_block 1) (blocks_from 1 1) 3 2 ≡ Send 1 (record { at = 0; len = 1 }) ∷ []
member_sends = refl

abbrev blocks : ℕ → List ℕ
blocks r = row_of ((7 ∷ []) ∷ (8 ∷ []) ∷ (9 ∷ []) ∷ []) r

abbrev rows : ℕ → List ℕ
rows r = row_of ((1 ∷ 2 ∷ 3 ∷ []) ∷ (4 ∷ 5 ∷ 0 ∷ []) ∷ (7 ∷ 0 ∷ 0 ∷ []) ∷ []) r

gathered : result_at (gather_by 1 3 1) blocks 1 ≡ 7 ∷ 8 ∷ 9 ∷ []
gathered = refl

scattered : result_at (scatter_by 1 3 1) (λ r. row_of ([] ∷ (4 ∷ 5 ∷ 6 ∷ []) ∷ [] ∷ []) r) 2 ≡ 6 ∷ []
scattered = refl

-- member 1 gets the second block of each
exchanged : result_at (alltoall_by 3 1) rows 1 ≡ 2 ∷ 5 ∷ 0 ∷ []
exchanged = refl

-- the bytes of each member's row
abbrev lens : ℕ → ℕ
lens zero = 2
lens (suc zero) = 0
lens (suc (suc i)) = 1

-- member 1, whose own row is empty, sends it nevertheless
each_sends_its_row :
    row_exchange lens 3 1
    ≡ Send 0 (record { at = 3; len = 0 })
    ∷ Send 2 (record { at = 3; len = 0 })
    ∷ Copy (record { at = 3; len = 0 }) (record { at = 2; len = 0 })
    ∷ Recv 0 (record { at = 0; len = 2 })
    ∷ Recv 2 (record { at = 2; len = 1 })
    ∷ []
each_sends_its_row = refl

-- all rows, packed
all_gathered : result_at (allgatherv_by lens 3) (λ r. row_of ((1 ∷ 2 ∷ []) ∷ [] ∷ (9 ∷ []) ∷ []) r) 1 ≡ 1 ∷ 2 ∷ 9 ∷ []
all_gathered = refl

gathered_at_once : family_exchanges 3 (allgatherv_by lens 3) ≡ 1
gathered_at_once = refl

-- the last that isn't 0, in member order
combined_in_order : result_at (rsblock_by LastNz I8 3 1) rows 1 ≡ 5 ∷ []
combined_in_order = refl

one_exchange : family_exchanges 3 (rsblock_by LastNz I8 3 1) ≡ 1
one_exchange = refl

alone : family_exchanges 1 (rsblock_by LastNz I8 1 1) ≡ 0
alone = refl
