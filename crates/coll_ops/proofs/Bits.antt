-- Elements and their bits, at any width and sign. A type is given here by whether it has a sign, by its machine word w,
-- and by the number k of its bits.
use Rattle.std.proofs.Common.{◌≡◌, ℕ, ◌+◌, ◌-◌, ◌*◌, ◌%◌, ◌^◌, ◌<◌, ◌≤◌, ℤ, pos, negsuc, ◌+ℤ◌, ◌*ℤ◌, Bool, true, false, refl, arith, ap, sym, ◌∙◌}
use Rattle.std.proofs.Common.{subst, bit_and}
use Rattle.std.specs.Prelude.{◌&&◌, nat_lt, unsigned_abs, if◌then◌else◌}
use Rattle.std.specs.Int.{Width, cast_unsigned, cast_signed, int_wrap, int_rem_euclid}
use Rattle.std.proofs.Math.Facts.{sfits_to_z, Fits-of_lt}
use Rattle.std.proofs.Math.Nat.{pow-le-pow_right, mod-eq_of_lt}
use Rattle.std.proofs.Math.Pow.{mod-mod-pow}
use Rattle.std.proofs.lemmas.Bool.{false≢true, ltb-true, lt-ltb}
use Rattle.std.proofs.lemmas.Int.{wrapping_add-bits, wrapping_mul-bits, of_z-to_z, to_z-of_z, SFits-int_wrap}
use Rattle.std.proofs.lemmas.Nat.{and_mask, pow_pos}
use mir.Val.{bits, hbits, SFits}
use lib.Signed.{mag}

abbrev pub element_by : Bool → Width → ℕ → ℤ
element_by signed w n = if signed then cast_signed w n else pos n

abbrev pub limit_by : Bool → ℕ → ℕ
limit_by signed k = if signed then 2 ^ (k - 1) else 2 ^ k

abbrev pub is_element_by : Bool → ℕ → ℤ → Bool
is_element_by signed k (pos n) = nat_lt n (limit_by signed k)
is_element_by signed k (negsuc n) = signed && nat_lt n (limit_by signed k)

abbrev pub wrapped_by : Bool → Width → ℕ → ℤ → ℤ
wrapped_by signed w k z = if signed then int_wrap w z else pos (unsigned_abs (int_rem_euclid z (pos (2 ^ k))))

-- the word w has k bits, from 2 to 64
pub record HasBits (w : Width) (k : ℕ) : Type 0 where
  pub some : 1 < k
  pub most : k ≤ 64
  pub all : bits w ≡ k
  pub half : hbits w ≡ k - 1

half-le : (k : ℕ) → 2 ^ (k - 1) ≤ 2 ^ k
half-le k = pow-le-pow_right {n = 2} (omega arith) (let le : k - 1 ≤ k = omega arith in le)

pub limit_by-some : (signed : Bool) (k : ℕ) → 1 < k → 1 < limit_by signed k
limit_by-some true k some = pow-le-pow_right {n = 2} (omega arith) (let le : 1 ≤ k - 1 = omega arith in le)
limit_by-some false k some = pow-le-pow_right {n = 2} (omega arith) (let le : 1 ≤ k = omega arith in le)

-- the bits of an element
pub cast_unsigned-element_by : (signed : Bool) (w : Width) (k n : ℕ) → HasBits w k → n < 2 ^ k → cast_unsigned w (element_by signed w n) ≡ n
cast_unsigned-element_by true w k n has h = of_z-to_z w n (rw has.all h)
cast_unsigned-element_by false w k n has h = refl

mag-signed : (k : ℕ) (z : ℤ) → is_element_by true k z ≡ true → mag z < 2 ^ (k - 1)
mag-signed k (pos n) h = ltb-true n (2 ^ (k - 1)) h
mag-signed k (negsuc n) h = ltb-true n (2 ^ (k - 1)) h

signed-mag : (k : ℕ) (z : ℤ) → mag z < 2 ^ (k - 1) → is_element_by true k z ≡ true
signed-mag k (pos n) h = lt-ltb n (2 ^ (k - 1)) h
signed-mag k (negsuc n) h = lt-ltb n (2 ^ (k - 1)) h

SFits-signed : (w : Width) (k : ℕ) (z : ℤ) → HasBits w k → is_element_by true k z ≡ true → SFits w z
SFits-signed w k z has h = record { sfits = rw has.half (mag-signed k z h) }

-- bits of the type's width are those of an element
pub is_element_by-element_by : (signed : Bool) (w : Width) (k n : ℕ) → HasBits w k → n < 2 ^ k → is_element_by signed k (element_by signed w n) ≡ true
is_element_by-element_by true w k n has h =
    let fits : SFits w (cast_signed w n) = sfits_to_z (Fits-of_lt (rw has.all h)) in
    signed-mag k (cast_signed w n) (subst (λ (h : ℕ). mag (cast_signed w n) < 2 ^ h) has.half fits.sfits)
is_element_by-element_by false w k n has h = lt-ltb n (2 ^ k) h

pub cast_unsigned-lt_by : (signed : Bool) (w : Width) (k : ℕ) (z : ℤ) → HasBits w k → is_element_by signed k z ≡ true → cast_unsigned w z < 2 ^ k
cast_unsigned-lt_by true w k (pos n) has h = omega (arith, ltb-true n (2 ^ (k - 1)) h, half-le k)
cast_unsigned-lt_by true w k (negsuc n) has h = rw has.all (omega (arith, pow_pos k))
cast_unsigned-lt_by false w k (pos n) has h = ltb-true n (2 ^ k) h
cast_unsigned-lt_by false w k (negsuc n) has h = absurd (false≢true h)

pub element_by-cast_unsigned : (signed : Bool) (w : Width) (k : ℕ) (z : ℤ) → HasBits w k → is_element_by signed k z ≡ true
    → element_by signed w (cast_unsigned w z) ≡ z
element_by-cast_unsigned true w k z has h = to_z-of_z w z (SFits-signed w k z has h)
element_by-cast_unsigned false w k (pos n) has h = refl
element_by-cast_unsigned false w k (negsuc n) has h = absurd (false≢true h)

-- a wrapped number is an element
pub is_element_by-wrapped_by : (signed : Bool) (w : Width) (k : ℕ) (z : ℤ) → HasBits w k → is_element_by signed k (wrapped_by signed w k z) ≡ true
is_element_by-wrapped_by true w k z has =
    let fits : SFits w (int_wrap w z) = SFits-int_wrap w z in
    signed-mag k (int_wrap w z) (subst (λ (h : ℕ). mag (int_wrap w z) < 2 ^ h) has.half fits.sfits)
is_element_by-wrapped_by false w k (pos n) has = lt-ltb (n % 2 ^ k) (2 ^ k) (omega (arith, pow_pos k))
is_element_by-wrapped_by false w k (negsuc n) has = lt-ltb (2 ^ k - 1 - n % 2 ^ k) (2 ^ k) (omega (arith, pow_pos k))

-- the bits of a sum are the sum of the bits, without a carry
pub cast_unsigned-wrapped_sum : (signed : Bool) (w : Width) (k m n : ℕ) → HasBits w k → m < 2 ^ k → n < 2 ^ k →
    cast_unsigned w (wrapped_by signed w k (element_by signed w m +ℤ element_by signed w n)) ≡ (m + n) % 2 ^ k
cast_unsigned-wrapped_sum true w k m n has left right =
    ap (cast_unsigned w) (sym (wrapping_add-bits w m n (rw has.all left) (rw has.all right)))
    ∙ (of_z-to_z w ((m + n) % 2 ^ bits w) (omega (arith, pow_pos (bits w))) ∙ ap (λ b. (m + n) % 2 ^ b) has.all)
cast_unsigned-wrapped_sum false w k m n has left right = refl

-- the same of a product
pub cast_unsigned-wrapped_product : (signed : Bool) (w : Width) (k m n : ℕ) → HasBits w k → m < 2 ^ k → n < 2 ^ k →
    cast_unsigned w (wrapped_by signed w k (element_by signed w m *ℤ element_by signed w n)) ≡ (m * n) % 2 ^ k
cast_unsigned-wrapped_product true w k m n has left right =
    ap (cast_unsigned w) (sym (wrapping_mul-bits w m n (rw has.all left) (rw has.all right)))
    ∙ (of_z-to_z w ((m * n) % 2 ^ bits w) (omega (arith, pow_pos (bits w))) ∙ ap (λ b. (m * n) % 2 ^ b) has.all)
cast_unsigned-wrapped_product false w k m n has left right = refl

-- a number of k bits is its own bits
int_wrap-pos : (w : Width) (n : ℕ) → int_wrap w (pos n) ≡ cast_signed w (n % 2 ^ bits w)
unfolding int_wrap
int_wrap-pos w n = refl

pub cast_unsigned-wrapped_pos : (signed : Bool) (w : Width) (k n : ℕ) → HasBits w k → n < 2 ^ k → cast_unsigned w (wrapped_by signed w k (pos n)) ≡ n
cast_unsigned-wrapped_pos true w k n has h =
    ap (cast_unsigned w) (int_wrap-pos w n)
    ∙ (of_z-to_z w (n % 2 ^ bits w) (omega (arith, pow_pos (bits w))) ∙ (ap (λ b. n % 2 ^ b) has.all ∙ mod-eq_of_lt h))
cast_unsigned-wrapped_pos false w k n has h = let e : n % 2 ^ k ≡ n = mod-eq_of_lt h in e

-- the mask of k bits, applied to a machine word
pub bit_and-mask : (k n : ℕ) → k ≤ 64 → bit_and (n % 2 ^ 64) (2 ^ k - 1) ≡ n % 2 ^ k
bit_and-mask k n within =
    let split : (64 - k) + k ≡ 64 = omega arith in
    and_mask (n % 2 ^ 64) k ∙ (ap (λ b. n % 2 ^ b % 2 ^ k) (sym split) ∙ mod-mod-pow n (64 - k) k)
