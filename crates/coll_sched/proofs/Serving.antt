-- from the heart to the collective's value
use Rattle.std.proofs.Common.{◌≡◌, ℕ, zero, suc, ◌+◌, ◌<◌, ◌≤◌, ◌⊎◌, inl, inr, List, [], ◌∷◌, length, get_or, replicate, unwrap_or, Option, Some}
use Rattle.std.proofs.Common.{None, refl, sym, ap, subst, ◌∙◌, arith}
use Rattle.std.proofs.lemmas.Bool.{cases_lt}
use Rattle.std.proofs.lemmas.List.{get_or-replicate, get_or_past, length-replicate}
use Rattle.std.specs.List.{AllByRecursion}
use Rattle.coll_kinds.specs.declared.signature.Signature.{Signature}
use Rattle.coll_sched.specs.declared.action.Action.{Action}
use Rattle.coll_sched.specs.declared.action.Action.TheVariants.{Send, Copy, Combine, Recv}
use Rattle.coll_ops.specs.Values.{row_of}
use Rattle.coll_sched.specs.Common.{read_of, IsAmong, Family, actions_at, Receives, Heard, IsLawful, Progress, World, filled, Tracks, Serves}
use Rattle.coll_kinds.specs.Elements.{AreBytes}
use Rattle.coll_sched.specs.Served.{listing, HoldsValue, HeldValue}
use Rattle.coll_sched.proofs.Rounds.{lock_step_agrees}
use Rattle.coll_sched.proofs.Track.{tracks, holds, filled_fits}

pub row_listing : (xs : ℕ → List ℕ) (k c i : ℕ) → i < c → row_of (listing xs k c) i ≡ xs (k + i)
row_listing xs k zero i h = absurd (omega arith)
row_listing xs k (suc c) zero h = ap xs (omega arith)
row_listing xs k (suc c) (suc i) h = row_listing xs (suc k) c i (omega arith) ∙ ap xs (let e : suc k + i ≡ k + suc i = omega arith in e)

pub length_listing : (xs : ℕ → List ℕ) (k c : ℕ) → length (listing xs k c) ≡ c
length_listing xs k zero = refl
length_listing xs k (suc c) = ap suc (length_listing xs (suc k) c)

received_member : (n : ℕ) (xs : List Action) (q : ℕ) → AllByRecursion (IsAmong n) xs → Receives xs q → q < n
received_member n [] q f h = absurd h
received_member n (Send to from ∷ xs) q f (inl h) = absurd h
received_member n (Copy from into ∷ xs) q f (inl h) = absurd h
received_member n (Combine op ty a b into ∷ xs) q f (inl h) = absurd h
received_member n (Recv of into ∷ xs) q f (inl h) = subst (λ m. m < n) h f.0
received_member n (Send to from ∷ xs) q f (inr h) = received_member n xs q f.1 h
received_member n (Copy from into ∷ xs) q f (inr h) = received_member n xs q f.1 h
received_member n (Combine op ty a b into ∷ xs) q f (inr h) = received_member n xs q f.1 h
received_member n (Recv of into ∷ xs) q f (inr h) = received_member n xs q f.1 h

-- only members are heard
pub heard_member : (n : ℕ) (f : Family) → IsLawful n f → (j r p : ℕ) → r < n → Heard f j r p → p < n
heard_member n f lawful zero r p low h = omega arith
heard_member n f lawful (suc j) r p low (inl h) = heard_member n f lawful j r p low h
heard_member n f lawful (suc j) r p low (inr h) =
    heard_member n f lawful j h.0 p (received_member n (actions_at f j r) h.0 (lawful.peers j r low) h.1) h.2

zero_at : (n i : ℕ) → (i < n) ⊎ (n ≤ i) → get_or (replicate {A = ℕ} n 0) i 0 ≡ 0
zero_at n i (inl h) = get_or-replicate {A = ℕ} n i 0 0 h
zero_at n i (inr h) = get_or_past (replicate {A = ℕ} n 0) i 0 (omega (arith, length-replicate {A = ℕ} n 0))

zero_bytes : (n : ℕ) → AreBytes (replicate n 0)
zero_bytes n i = omega (arith, zero_at n i (cases_lt i n))

-- the filled contributions are bytes
pub filled_bytes : (n : ℕ) (f : Family) (w : World) → Tracks n f w → (r : ℕ) → AreBytes (filled f w.given r)
filled_bytes n f w t r = go (w.given r) refl
  where
    go : (o : Option (List ℕ)) → w.given r ≡ o → AreBytes (unwrap_or o (replicate (f r).input.len 0))
    go None e = zero_bytes (f r).input.len
    go (Some bytes) e = t.bytes r bytes e

-- of a world on the track
pub value_held : (sig : Signature) (n : ℕ) (f : Family) → Serves sig n f → (w : World) → Tracks n f w → (r : ℕ) (p : Progress)
    → w.progress r ≡ Some p → p.round ≡ length (f r).rounds → HoldsValue sig n f w r p
value_held sig n f serves w t r p e i =
    let low : r < n = (t.members r p e).member in
    let is = (holds n f serves.lawful w t).results r p e i in
    record {
      value_is = is.0
          ∙ (ap (λ b. read_of b (f r).output)
          (lock_step_agrees f (filled f w.given) (row_of (listing (filled f w.given) 0 n)) (length (f r).rounds) r
          (λ s h. let m : s < n =
          heard_member n f serves.lawful (length (f r).rounds) r s low h in sym
          (row_listing (filled f w.given) 0 n s m ∙ ap (filled f w.given) (let z : 0 + s ≡ s = omega arith in z))))
          ∙ serves.has_value (listing (filled f w.given) 0 n)
          (record {
            each = length_listing (filled f w.given) 0 n;
            long = λ s h. ap length (row_listing (filled f w.given) 0 n s h ∙ ap (filled f w.given) (let z : 0 + s ≡ s = omega arith in z))
                ∙ (filled_fits n f w t s h ∙ serves.takes_given s h);
          })
          (λ s h. subst AreBytes (sym (row_listing (filled f w.given) 0 n s h
          ∙ ap (filled f w.given) (let z : 0 + s ≡ s = omega arith in z))) (filled_bytes n f w t s)) r low);
      needed = λ s k. is.1 s (serves.hears r s low k);
    }

pub held_value_holds : HeldValue
held_value_holds sig n f serves w before r p e i = value_held sig n f serves w (tracks n f serves.lawful before) r p e i
