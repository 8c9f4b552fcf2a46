-- The places of a rank's requests: each is below the number of its communicator's, and no two are the same.
use Rattle.std.proofs.Common.{◌≡◌, ℕ, zero, suc, ◌+◌, ◌<◌, ◌≤◌, ◌⊎◌, inl, inr, Bool, true, false, cond, eqb, List, Option, Some, None, refl, sym, ap}
use Rattle.std.proofs.Common.{◌∙◌, arith, eq-eqb, ne_eqb}
use Rattle.std.proofs.lemmas.Bool.{cases_eq, false≢true}
use Rattle.std.specs.Prelude.{slice_get}
use Rattle.coll_kinds.specs.declared.signature.Signature.{Signature}
use Rattle.coll_kinds.specs.Puts.{put}
use Rattle.coll_kinds.proofs.Puts.{put_same, put_other, put_at, put_cases}
use Rattle.coll_parser.specs.declared.command.Command.{Command}
use Rattle.coll_parser.specs.declared.command.Command.TheVariants.{Post, Init, Start, Wait, Test, Free, WaitAny, WaitSome, WaitAll}
use Rattle.coll_verdict.specs.Stalls.{makes_on, makes_in, made_by}
use Rattle.coll_verdict.specs.Sketches.{Sketch, making, sketched, sketched_if, sketch_at}
use Rattle.coll_verdict.proofs.Sketched.{counted, lt_le, le_of}

pub record IsPlaced (k : Sketch) : Type 0 where
  pub low : (q : ℕ) → q < k.made → k.place q < k.posted (k.comm q)
  pub apart : (p q : ℕ) → p < k.made → q < k.made → k.comm p ≡ k.comm q → k.place p ≡ k.place q → p ≡ q

below_next : (q n : ℕ) → q < suc n → (q ≡ n → ⊥) → q < n
below_next q n l d = omega arith

pub lt_at : (a b c d : ℕ) → a ≡ c → b ≡ d → c < d → a < b
lt_at a b c d x y l = omega arith

below_suc : (n : ℕ) → n < suc n
below_suc n = omega arith

irreflexive : (a b : ℕ) → a < b → a ≡ b → ⊥
irreflexive a b l e = absurd (omega arith)

module _ (k : Sketch) (comm : ℕ) (sig : Signature) (starts : ℕ) (h : IsPlaced k) where
  abbrev after : Sketch
  after = making k comm sig starts

  new_comm : (q : ℕ) → q ≡ k.made → after.comm q ≡ comm
  new_comm q e = put_at k.comm k.made comm q e

  new_place : (q : ℕ) → q ≡ k.made → after.place q ≡ k.posted comm
  new_place q e = put_at k.place k.made (k.posted comm) q e

  old_comm : (q : ℕ) → (q ≡ k.made → ⊥) → after.comm q ≡ k.comm q
  old_comm q d = put_other k.comm k.made comm q d

  old_place : (q : ℕ) → (q ≡ k.made → ⊥) → after.place q ≡ k.place q
  old_place q d = put_other k.place k.made (k.posted comm) q d

  made_low : (q : ℕ) → q < suc k.made → after.place q < after.posted (after.comm q)
  made_low q l = go (cases_eq q k.made)
    where
      go : (q ≡ k.made) ⊎ (q ≡ k.made → ⊥) → after.place q < after.posted (after.comm q)
      go (inl e) = lt_at (after.place q) (after.posted (after.comm q)) (k.posted comm) (suc (k.posted comm)) (new_place q e)
          (ap after.posted (new_comm q e) ∙ put_same k.posted comm (suc (k.posted comm))) (below_suc (k.posted comm))
      go (inr d) = lt_at (after.place q) (after.posted (after.comm q)) (k.place q) (after.posted (k.comm q)) (old_place q d) (ap after.posted (old_comm q d))
          (lt_le (k.place q) (k.posted (k.comm q)) (after.posted (k.comm q)) (h.low q (below_next q k.made l d)) (counted k.posted comm (k.comm q)))

  -- an older request on the communicator has a lower place than the new one
  differ : (p q : ℕ) → q < suc k.made → p ≡ k.made → (q ≡ k.made → ⊥) → after.comm p ≡ after.comm q → after.place p ≡ after.place q → ⊥
  differ p q l e d c s =
      let low = h.low q (below_next q k.made l d) in
      let same : k.comm q ≡ comm = sym (old_comm q d) ∙ (sym c ∙ new_comm p e) in
      irreflexive (k.place q) (k.posted (k.comm q)) low (sym (old_place q d) ∙ (sym s ∙ (new_place p e ∙ ap k.posted (sym same))))

  made_apart : (p q : ℕ) → p < suc k.made → q < suc k.made → after.comm p ≡ after.comm q → after.place p ≡ after.place q → p ≡ q
  made_apart p q l m c s = go (cases_eq p k.made) (cases_eq q k.made)
    where
      go : (p ≡ k.made) ⊎ (p ≡ k.made → ⊥) → (q ≡ k.made) ⊎ (q ≡ k.made → ⊥) → p ≡ q
      go (inl x) (inl y) = x ∙ sym y
      go (inl x) (inr y) = absurd (differ p q m x y c s)
      go (inr x) (inl y) = absurd (differ q p l y x (sym c) (sym s))
      go (inr x) (inr y) =
          h.apart p q (below_next p k.made l x) (below_next q k.made m y) (sym (old_comm p x) ∙ (c ∙ old_comm q y)) (sym (old_place p x) ∙ (s ∙ old_place q y))

  making_placed : IsPlaced (making k comm sig starts)
  making_placed = record { low = made_low; apart = made_apart }

sketched_placed : (c : Command) (k : Sketch) → IsPlaced k → IsPlaced (sketched c k)
sketched_placed (Post comm sig given) k h = making_placed k comm sig 1 h
sketched_placed (Init comm sig) k h = making_placed k comm sig 0 h
sketched_placed (Start q given) k h = record { low = h.low; apart = h.apart }
sketched_placed (Wait q) k h = record { low = h.low; apart = h.apart }
sketched_placed (Test q) k h = record { low = h.low; apart = h.apart }
sketched_placed (Free q) k h = h
sketched_placed (WaitAny qs) k h = record { low = h.low; apart = h.apart }
sketched_placed (WaitSome qs) k h = record { low = h.low; apart = h.apart }
sketched_placed (WaitAll qs) k h = record { low = h.low; apart = h.apart }

sketched_if_placed : (o : Option Command) (k : Sketch) → IsPlaced k → IsPlaced (sketched_if o k)
sketched_if_placed None k h = h
sketched_if_placed (Some c) k h = sketched_placed c k h

pub sketch_placed : (lines : List Command) (n : ℕ) → IsPlaced (sketch_at lines n)
sketch_placed lines zero = record { low = λ q l. absurd (none q l); apart = λ p q l m c s. absurd (none p l) }
  where
    none : (q : ℕ) → q < 0 → ⊥
    none q l = absurd (omega arith)
sketch_placed lines (suc n) = sketched_if_placed (slice_get lines n) (sketch_at lines n) (sketch_placed lines n)

-- ---- how many requests there are on a communicator

plus_zero : (n : ℕ) → n ≡ n + 0
plus_zero n = omega arith

plus_one : (x y z : ℕ) (b : Bool) → x ≡ suc y → z ≡ y → b ≡ true → x ≡ z + cond b 1 0
plus_one x y z true e h is = omega arith
plus_one x y z false e h is = absurd (false≢true is)

plus_none : (x z : ℕ) (b : Bool) → x ≡ z → b ≡ false → x ≡ z + cond b 1 0
plus_none x z true e is = absurd (false≢true (sym is))
plus_none x z false e is = omega arith

put_posted : (comm c : ℕ) (k : Sketch) → put k.posted c (suc (k.posted c)) comm ≡ k.posted comm + cond (eqb c comm) 1 0
put_posted comm c k = go (put_cases k.posted c (suc (k.posted c)) comm)
  where
    go : ((comm ≡ c) × (put k.posted c (suc (k.posted c)) comm ≡ suc (k.posted c)))
        ⊎ ((comm ≡ c → ⊥) × (put k.posted c (suc (k.posted c)) comm ≡ k.posted comm))
        → put k.posted c (suc (k.posted c)) comm ≡ k.posted comm + cond (eqb c comm) 1 0
    go (inl a) = plus_one (put k.posted c (suc (k.posted c)) comm) (k.posted c) (k.posted comm) (eqb c comm) a.1 (ap k.posted a.0) (eq-eqb c comm (sym a.0))
    go (inr a) = plus_none (put k.posted c (suc (k.posted c)) comm) (k.posted comm) (eqb c comm) a.1 (ne_eqb c comm (λ e. a.0 (sym e)))

one_posted : (comm : ℕ) (c : Command) (k : Sketch) → (sketched c k).posted comm ≡ k.posted comm + cond (makes_on comm c) 1 0
one_posted comm (Post c sig given) k = put_posted comm c k
one_posted comm (Init c sig) k = put_posted comm c k
one_posted comm (Start q given) k = plus_zero (k.posted comm)
one_posted comm (Wait q) k = plus_zero (k.posted comm)
one_posted comm (Test q) k = plus_zero (k.posted comm)
one_posted comm (Free q) k = plus_zero (k.posted comm)
one_posted comm (WaitAny qs) k = plus_zero (k.posted comm)
one_posted comm (WaitSome qs) k = plus_zero (k.posted comm)
one_posted comm (WaitAll qs) k = plus_zero (k.posted comm)

posted_if : (comm : ℕ) (o : Option Command) (k : Sketch) → (sketched_if o k).posted comm ≡ k.posted comm + cond (makes_in comm o) 1 0
posted_if comm None k = plus_zero (k.posted comm)
posted_if comm (Some c) k = one_posted comm c k

pub posted_is : (comm : ℕ) (lines : List Command) (n : ℕ) → (sketch_at lines n).posted comm ≡ made_by comm lines n
posted_is comm lines zero = refl
posted_is comm lines (suc n) =
    posted_if comm (slice_get lines n) (sketch_at lines n) ∙ ap (λ (m : ℕ). m + cond (makes_in comm (slice_get lines n)) 1 0) (posted_is comm lines n)

more_than : (a b c : ℕ) → a ≤ b → a ≤ b + c
more_than a b c low = omega arith

pub made_more : (comm : ℕ) (lines : List Command) (m n : ℕ) → m ≤ n → made_by comm lines m ≤ made_by comm lines n
made_more comm lines m zero low =
    let e : m ≡ 0 = omega arith in
    le_of (made_by comm lines m) (made_by comm lines 0) (ap (made_by comm lines) (sym e))
made_more comm lines m (suc n) low = go (λ less. made_more comm lines m n less) (cases_eq m (suc n))
  where
    go : (m ≤ n → made_by comm lines m ≤ made_by comm lines n) → (m ≡ suc n) ⊎ (m ≡ suc n → ⊥) → made_by comm lines m ≤ made_by comm lines (suc n)
    go before (inl e) = le_of (made_by comm lines m) (made_by comm lines (suc n)) (ap (made_by comm lines) (sym e))
    go before (inr d) =
        let less : m ≤ n = omega arith in
        more_than (made_by comm lines m) (made_by comm lines n) (cond (makes_in comm (slice_get lines n)) 1 0) (before less)
