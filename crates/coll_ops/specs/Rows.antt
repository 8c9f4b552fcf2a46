-- Worked rows, computed.
use Rattle.std.specs.Prelude.{◌≡◌, ℕ, List, [], ◌∷◌, ℤ, pos, negsuc, Some, None, refl}
use Rattle.std.specs.Int.{int_wrap}
use Rattle.coll_kinds.specs.declared.datatype.Datatype.TheVariants.{I8, I32, U8, Pair}
use Rattle.coll_kinds.specs.declared.operation.Op.TheVariants.{Sum, Land, Lxor, LastNz, MaxLoc, MinLoc}
use Rattle.coll_kinds.specs.declared.kind.Kind.TheVariants.{Bcast, Alltoall, Allreduce, Reduce, Scan, Exscan}
use Rattle.coll_kinds.specs.declared.kind.Mode.TheVariants.{Once}
use Rattle.coll_kinds.specs.declared.signature.Signature.{Signature}
use Rattle.coll_kinds.specs.Elements.{whole, pair, element_bytes}
use Rattle.coll_ops.specs.Values.{value}

abbrev allreduce_sum_i32 : Signature
allreduce_sum_i32 = record { kind = Allreduce; mode = Once; root = 0; op = Some Sum; ty = I32; count = 1; each = None }

abbrev allreduce_land_i32 : Signature
allreduce_land_i32 = record { kind = Allreduce; mode = Once; root = 0; op = Some Land; ty = I32; count = 1; each = None }

abbrev allreduce_sum_i8 : Signature
allreduce_sum_i8 = record { kind = Allreduce; mode = Once; root = 0; op = Some Sum; ty = I8; count = 1; each = None }

abbrev bcast_i32 : Signature
bcast_i32 = record { kind = Bcast; mode = Once; root = 1; op = None; ty = I32; count = 1; each = None }

abbrev row : ℤ → List ℕ
row z = element_bytes I32 (whole z)

-- 1, 2 and 3 have the sum 6 at each member
sum_of_three : value allreduce_sum_i32 (row (pos 1) ∷ row (pos 2) ∷ row (pos 3) ∷ []) 1 ≡ 6 ∷ 0 ∷ 0 ∷ 0 ∷ []
unfolding int_wrap
sum_of_three = refl

-- two nonzero elements are 1
land_of_two : value allreduce_land_i32 (row (pos 5) ∷ row (pos 5) ∷ []) 0 ≡ row (pos 1)
land_of_two = refl

-- one element isn't made 1
one_member_keeps_its_value : value allreduce_land_i32 (row (pos 5) ∷ []) 0 ≡ row (pos 5)
one_member_keeps_its_value = refl

-- 127 and 1 have the i8 sum -128
sum_wraps : value allreduce_sum_i8 ((127 ∷ []) ∷ (1 ∷ []) ∷ []) 0 ≡ element_bytes I8 (whole (negsuc 127))
unfolding int_wrap
sum_wraps = refl

bcast_of_seven : value bcast_i32 ([] ∷ row (pos 7) ∷ []) 0 ≡ row (pos 7)
bcast_of_seven = refl

abbrev reduce_lastnz_i32 : Signature
reduce_lastnz_i32 = record { kind = Reduce; mode = Once; root = 2; op = Some LastNz; ty = I32; count = 1; each = None }

abbrev alltoall_u8 : Signature
alltoall_u8 = record { kind = Alltoall; mode = Once; root = 0; op = None; ty = U8; count = 1; each = None }

abbrev allreduce_lxor_i8 : Signature
allreduce_lxor_i8 = record { kind = Allreduce; mode = Once; root = 0; op = Some Lxor; ty = I8; count = 1; each = None }

-- the last that isn't 0, in member order; the reverse order would give 3
lastnz_in_order : value reduce_lastnz_i32 (row (pos 3) ∷ row (pos 0) ∷ row (pos 5) ∷ []) 2 ≡ row (pos 5)
lastnz_in_order = refl

alltoall_of_three : value alltoall_u8 ((1 ∷ 2 ∷ 3 ∷ []) ∷ (4 ∷ 5 ∷ 6 ∷ []) ∷ (7 ∷ 8 ∷ 9 ∷ []) ∷ []) 1 ≡ 2 ∷ 5 ∷ 8 ∷ []
alltoall_of_three = refl

-- 5 and 5 are 0, and 0 and 5 are 1
lxor_of_three : value allreduce_lxor_i8 ((5 ∷ []) ∷ (5 ∷ []) ∷ (5 ∷ []) ∷ []) 0 ≡ 1 ∷ []
lxor_of_three = refl

abbrev scan_lastnz_i8 : Signature
scan_lastnz_i8 = record { kind = Scan; mode = Once; root = 0; op = Some LastNz; ty = I8; count = 1; each = None }

abbrev exscan_lastnz_i8 : Signature
exscan_lastnz_i8 = record { kind = Exscan; mode = Once; root = 0; op = Some LastNz; ty = I8; count = 1; each = None }

-- a scan combines up to the member's own row, an exscan up to the one before, and the first gets nothing
scan_of_three : value scan_lastnz_i8 ((3 ∷ []) ∷ (0 ∷ []) ∷ (5 ∷ []) ∷ []) 2 ≡ 5 ∷ []
scan_of_three = refl

exscan_of_three : value exscan_lastnz_i8 ((3 ∷ []) ∷ (0 ∷ []) ∷ (5 ∷ []) ∷ []) 2 ≡ 3 ∷ []
exscan_of_three = refl

exscan_of_the_first : value exscan_lastnz_i8 ((3 ∷ []) ∷ (0 ∷ []) ∷ (5 ∷ []) ∷ []) 0 ≡ []
exscan_of_the_first = refl

abbrev allreduce_maxloc : Signature
allreduce_maxloc = record { kind = Allreduce; mode = Once; root = 0; op = Some MaxLoc; ty = Pair; count = 1; each = None }

abbrev allreduce_minloc : Signature
allreduce_minloc = record { kind = Allreduce; mode = Once; root = 0; op = Some MinLoc; ty = Pair; count = 1; each = None }

abbrev located_row : ℤ → ℤ → List ℕ
located_row z at = element_bytes Pair (pair z at)

-- the greatest value, and the least index of those that have it
maxloc_of_three : value allreduce_maxloc (located_row (pos 7) (pos 2) ∷ located_row (pos 9) (pos 5) ∷ located_row (pos 9) (pos 1) ∷ []) 0
    ≡ located_row (pos 9) (pos 1)
maxloc_of_three = refl

minloc_of_three : value allreduce_minloc (located_row (negsuc 2) (pos 4) ∷ located_row (negsuc 2) (pos 0) ∷ located_row (pos 8) (pos 1) ∷ []) 0
    ≡ located_row (negsuc 2) (pos 0)
minloc_of_three = refl
