-- Rows of i32 numbers, as contributions and outcomes have them.
use Rattle.std.specs.Prelude.{◌≡◌, ◌<◌, ◌%◌, ◌∷◌, [], ℕ, ℤ, pos, negsuc, List, refl}
use Rattle.std.specs.List.{flat_map}
use Rattle.coll_kinds.specs.declared.datatype.Datatype.TheVariants.{I32}
use Rattle.coll_kinds.specs.declared.refusal.Refusal.{Refusal}
use Rattle.coll_kinds.specs.declared.refusal.Refusal.TheVariants.{BadLength}
use Rattle.coll_kinds.specs.Elements.{whole, element_bytes}

-- the bytes of the numbers, one after the other
abbrev pub number_bytes : List ℤ → List ℕ
number_bytes numbers = flat_map (λ z. element_bytes I32 (whole z)) numbers

-- that many bytes aren't numbers: the last one has less than four, and that number is returned
pub record IsUneven (len : ℕ) (why : Refusal) : Type 0 where
  pub left : 0 < len % 4
  pub told : why ≡ BadLength 4 (len % 4)

one_and_minus_two : number_bytes (pos 1 ∷ negsuc 1 ∷ []) ≡ 1 ∷ 0 ∷ 0 ∷ 0 ∷ 254 ∷ 255 ∷ 255 ∷ 255 ∷ []
one_and_minus_two = refl
