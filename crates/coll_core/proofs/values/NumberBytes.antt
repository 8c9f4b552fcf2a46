-- Rows of i32 numbers, read a number at a time.
use Rattle.std.proofs.Common.{◌≡◌, ◌∙◌, ap, ◌<◌, ◌^◌, ◌++◌, ◌+◌, ◌∷◌, [], inl, inr, arith, ℕ, ℤ, List, length, take, drop, get_or}
use Rattle.std.specs.Int.{cast_signed, cast_unsigned, from_le_bytes, w32}
use Rattle.std.proofs.lemmas.Bool.{cases_lt}
use Rattle.std.proofs.lemmas.Int.{of_z-to_z}
use Rattle.std.proofs.lemmas.Nat.{le_bytes_4}
use Rattle.std.proofs.lemmas.Grind.{flat_map-append}
use Rattle.std.proofs.lemmas.List.{append-nil, append_assoc, take-append-drop, get_or-drop, get_or-take, get_or_past}
use Rattle.coll_kinds.specs.declared.datatype.Datatype.TheVariants.{I32}
use Rattle.coll_kinds.specs.Elements.{whole, element_bytes}
use Rattle.coll_core.specs.Numbers.{number_bytes}

-- the number that four bytes are has these bytes
pub bytes-number : (bytes : List ℕ) (n : ℕ) → length bytes ≡ 4 → ((i : ℕ) → get_or bytes i 0 < 256) → n < 2 ^ 32 → n ≡ from_le_bytes w32 bytes
    → element_bytes I32 (whole (cast_signed w32 n)) ≡ bytes
bytes-number bytes n four all fits is =
    rw (of_z-to_z w32 n fits) (le_bytes_4 bytes n four all is)

-- the same, where the number has gone through its bits
pub bytes-number_again : (bytes : List ℕ) (n : ℕ) (z : ℤ) → length bytes ≡ 4 → ((i : ℕ) → get_or bytes i 0 < 256) → n < 2 ^ 32 → n ≡ from_le_bytes w32 bytes
    → z ≡ cast_signed w32 n → element_bytes I32 (whole (cast_signed w32 (cast_unsigned w32 z))) ≡ bytes
bytes-number_again bytes n z four all fits is number =
    let bits : cast_unsigned w32 z ≡ n = ap (cast_unsigned w32) number ∙ of_z-to_z w32 n fits in
    ap (λ m. element_bytes I32 (whole (cast_signed w32 m))) bits ∙ bytes-number bytes n four all fits is

-- one number more has been read
pub bytes-next : (read new : List ℤ) (z : ℤ) (first behind rest all : List ℕ) → number_bytes read ++ rest ≡ all → first ≡ take 4 rest → behind ≡ drop 4 rest
    → element_bytes I32 (whole z) ≡ first → new ≡ read ++ z ∷ [] → number_bytes new ++ behind ≡ all
bytes-next read new z first behind rest all before first_is behind_is is more =
    let row = λ (x : ℤ). element_bytes I32 (whole x) in
    let split : number_bytes new ≡ number_bytes read ++ first =
    ap number_bytes more ∙ (flat_map-append row read (z ∷ []) ∙ ap (λ bytes. number_bytes read ++ bytes) (append-nil (row z) ∙ is)) in
    let whole_rest : first ++ behind ≡ rest =
    rw (first_is, behind_is) (take-append-drop 4 rest) in
    ap (λ bytes. bytes ++ behind) split ∙ (append_assoc (number_bytes read) first behind ∙ (ap (λ bytes. number_bytes read ++ bytes) whole_rest ∙ before))

-- what is after four bytes are bytes, too
pub bytes-behind : (rest behind : List ℕ) → behind ≡ drop 4 rest → ((i : ℕ) → get_or rest i 0 < 256) → (i : ℕ) → get_or behind i 0 < 256
bytes-behind rest behind is all i = rw (is, get_or-drop 4 rest i 0) (all (4 + i))

-- and so are the four
pub bytes-first : (rest first : List ℕ) → first ≡ take 4 rest → length first ≡ 4 → ((i : ℕ) → get_or rest i 0 < 256) → (i : ℕ) → get_or first i 0 < 256
bytes-first rest first is four all i =
    elim (cases_lt i 4) [
      | inl below ↦ rw (is, get_or-take 4 rest i 0 below) (all i)
      | inr past ↦ rw (get_or_past first i 0 (omega arith)) (omega arith)
    ]
