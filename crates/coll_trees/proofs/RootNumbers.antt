-- members counted round from the root
use Rattle.std.proofs.Common.{◌≡◌, ℕ, ◌+◌, ◌-◌, ◌<◌, ◌≤◌, ◌⊎◌, inl, inr, true, false, leb, ltb, arith, leb-false, leb-true, ltb-true, ltb-false}
use Rattle.std.proofs.lemmas.Bool.{cases_Bool, cond-true, cond-false}
use Rattle.coll_trees.specs.BinomialTreeBcast.{from_root, member_at}

-- member r has the number v
pub data Turned (n root r v : ℕ) : Type 0 where
  straight : root ≤ r → v + root ≡ r → Turned n root r v
  around : r < root → v + root ≡ r + n → Turned n root r v

pub from_root_is : (n root r : ℕ) → root < n → Turned n root r (from_root n root r)
from_root_is n root r low = go (cases_Bool (leb root r))
  where
    go : (leb root r ≡ true) ⊎ (leb root r ≡ false) → Turned n root r (from_root n root r)
    go (inl h) =
        let e : from_root n root r ≡ r - root = cond-true (leb root r) (r - root) (r + n - root) h in
        let t : root ≤ r = leb-true root r h in
        straight t (omega arith)
    go (inr h) =
        let e : from_root n root r ≡ r + n - root = cond-false (leb root r) (r - root) (r + n - root) h in
        let t : r < root = leb-false root r h in
        around t (omega arith)

pub member_at_is : (n root v : ℕ) → root < n → v < n → Turned n root (member_at n root v) v
member_at_is n root v low in1 = go (cases_Bool (ltb (v + root) n))
  where
    go : (ltb (v + root) n ≡ true) ⊎ (ltb (v + root) n ≡ false) → Turned n root (member_at n root v) v
    go (inl h) =
        let e : member_at n root v ≡ v + root = cond-true (ltb (v + root) n) (v + root) (v + root - n) h in
        straight (omega arith) (omega arith)
    go (inr h) =
        let e : member_at n root v ≡ v + root - n = cond-false (ltb (v + root) n) (v + root) (v + root - n) h in
        let t : n ≤ v + root = ltb-false (v + root) n h in
        around (omega arith) (omega arith)

pub same_number : (n root r u v : ℕ) → Turned n root r u → Turned n root r v → u ≡ v
same_number n root r u v (straight a b) (straight c d) = omega arith
same_number n root r u v (straight a b) (around c d) = absurd (omega arith)
same_number n root r u v (around a b) (straight c d) = absurd (omega arith)
same_number n root r u v (around a b) (around c d) = omega arith

pub same_member : (n root r p v : ℕ) → r < n → p < n → Turned n root r v → Turned n root p v → r ≡ p
same_member n root r p v hr hp (straight a b) (straight c d) = omega arith
same_member n root r p v hr hp (straight a b) (around c d) = absurd (omega arith)
same_member n root r p v hr hp (around a b) (straight c d) = absurd (omega arith)
same_member n root r p v hr hp (around a b) (around c d) = omega arith

pub number_low : (n root r v : ℕ) → r < n → Turned n root r v → v < n
number_low n root r v hr (straight a b) = omega arith
number_low n root r v hr (around a b) = omega arith

pub member_at_low : (n root v : ℕ) → root < n → v < n → member_at n root v < n
member_at_low n root v low in1 = go (cases_Bool (ltb (v + root) n))
  where
    go : (ltb (v + root) n ≡ true) ⊎ (ltb (v + root) n ≡ false) → member_at n root v < n
    go (inl h) =
        let e : member_at n root v ≡ v + root = cond-true (ltb (v + root) n) (v + root) (v + root - n) h in
        let t : v + root < n = ltb-true (v + root) n h in
        omega arith
    go (inr h) =
        let e : member_at n root v ≡ v + root - n = cond-false (ltb (v + root) n) (v + root) (v + root - n) h in
        omega arith

pub member_at-from_root : (n root r : ℕ) → root < n → r < n → member_at n root (from_root n root r) ≡ r
member_at-from_root n root r low hr =
    let v : from_root n root r < n = number_low n root r (from_root n root r) hr (from_root_is n root r low) in
    same_member n root (member_at n root (from_root n root r)) r (from_root n root r) (member_at_low n root (from_root n root r) low v) hr
    (member_at_is n root (from_root n root r) low v) (from_root_is n root r low)

pub from_root-member_at : (n root v : ℕ) → root < n → v < n → from_root n root (member_at n root v) ≡ v
from_root-member_at n root v low hv =
    same_number n root (member_at n root v) (from_root n root (member_at n root v)) v
    (from_root_is n root (member_at n root v) low) (member_at_is n root v low hv)
