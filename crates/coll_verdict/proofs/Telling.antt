-- What is kept of a rank's requests goes on to be what its commands say.
use Rattle.std.proofs.Common.{◌≡◌, ℕ, suc, ◌+◌, ◌<◌, ◌≤◌, ◌||◌, ◌⊎◌, inl, inr, Bool, true, false, cond, eqb, List, [], ◌∷◌, ◌++◌, length, set, get_or}
use Rattle.std.proofs.Common.{count_by, Option, Some, None, refl, sym, ap, subst, ◌∙◌, arith, eq-eqb, ne_eqb, length-set}
use Rattle.std.proofs.lemmas.Option.{slice_get_within}
use Rattle.std.specs.Prelude.{slice_get, IfSome}
use Rattle.coll_kinds.specs.declared.signature.Signature.{Signature}
use Rattle.coll_kinds.specs.Common.{is_among, put}
use Rattle.coll_kinds.proofs.Puts.{put_at, put_other, put_cases}
use Rattle.coll_machine.proofs.Pushed.{get_either, length_pushed}
use Rattle.coll_verdict.specs.declared.known.KnownRequest.{KnownRequest}
use Rattle.coll_verdict.specs.Sketches.{Sketch, blank, making, starting, naming, resting}
use Rattle.coll_verdict.specs.Code.{IsKnown, IsSketch}
use Rattle.coll_verdict.proofs.Sketched.{not_same}
use Rattle.coll_verdict.proofs.Listed.{some_at, get_at, get_changed, count_pushed, count_changed}

pub is_blank : IsSketch [] blank
is_blank = record { made = refl; posted = λ comm. refl; each = λ q. tt }

abbrev pub new_sketched : List KnownRequest → ℕ → Signature → ℕ → KnownRequest
new_sketched xs comm sig starts =
    record { comm = comm; place = count_by (λ x. eqb x.comm comm) xs; sig = sig; starts = starts; is_rested = false; is_named = false }

one_more_is : (n m c d : ℕ) (b : Bool) → n ≡ m → d ≡ suc m → b ≡ true → c ≡ n + cond b 1 0 → c ≡ d
one_more_is n m c d true e f is h = omega arith
one_more_is n m c d false e f is h = absurd cc

no_more_is : (n m c d : ℕ) (b : Bool) → n ≡ m → d ≡ m → b ≡ false → c ≡ n + cond b 1 0 → c ≡ d
no_more_is n m c d false e f is h = omega arith
no_more_is n m c d true e f is h = absurd cc

pub is_made : (xs : List KnownRequest) (k : Sketch) (comm : ℕ) (sig : Signature) (starts : ℕ) → IsSketch xs k
    → IsSketch (xs ++ new_sketched xs comm sig starts ∷ []) (making k comm sig starts)
is_made xs k comm sig starts s =
    record {
      made = length_pushed xs (new_sketched xs comm sig starts) ∙ ap suc s.made;
      posted = counted;
      each =
          λ q. each q (slice_get (xs ++ new_sketched xs comm sig starts ∷ []) q) refl;
    }
  where
    counted : (c : ℕ) → count_by (λ x. eqb x.comm c) (xs ++ new_sketched xs comm sig starts ∷ []) ≡ (making k comm sig starts).posted c
    counted c = go (put_cases k.posted comm (suc (k.posted comm)) c)
      where
        go : ((c ≡ comm) × (put k.posted comm (suc (k.posted comm)) c ≡ suc (k.posted comm)))
            ⊎ ((c ≡ comm → ⊥) × (put k.posted comm (suc (k.posted comm)) c ≡ k.posted c))
            → count_by (λ x. eqb x.comm c) (xs ++ new_sketched xs comm sig starts ∷ []) ≡ (making k comm sig starts).posted c
        go (inl a) =
            one_more_is (count_by (λ x. eqb x.comm c) xs) (k.posted c) _ (put k.posted comm (suc (k.posted comm)) c) (eqb comm c)
            (s.posted c) (a.1 ∙ ap (λ c. suc (k.posted c)) (sym a.0)) (eq-eqb comm c (sym a.0))
            (count_pushed (λ x. eqb x.comm c) xs (new_sketched xs comm sig starts))
        go (inr a) =
            no_more_is (count_by (λ x. eqb x.comm c) xs) (k.posted c) _ (put k.posted comm (suc (k.posted comm)) c) (eqb comm c)
            (s.posted c) a.1 (ne_eqb comm c (λ e. a.0 (sym e))) (count_pushed (λ x. eqb x.comm c) xs (new_sketched xs comm sig starts))

    new : (q : ℕ) → q ≡ k.made → IsKnown (making k comm sig starts) q (new_sketched xs comm sig starts)
    new q e = record {
      comm = put_at k.comm k.made comm q e;
      place = put_at k.place k.made (k.posted comm) q e ∙ sym (s.posted comm);
      sig = put_at k.sig k.made (Some sig) q e;
      starts = put_at k.starts k.made starts q e;
      rested = put_at k.rested k.made false q e;
      named = put_at k.named k.made false q e;
    }

    old : (q : ℕ) (x : KnownRequest) → q < k.made → IsKnown k q x → IsKnown (making k comm sig starts) q x
    old q x low t = record {
      comm = put_other k.comm k.made comm q (not_same q k.made low) ∙ t.comm;
      place = put_other k.place k.made (k.posted comm) q (not_same q k.made low) ∙ t.place;
      sig = put_other k.sig k.made (Some sig) q (not_same q k.made low) ∙ t.sig;
      starts = put_other k.starts k.made starts q (not_same q k.made low) ∙ t.starts;
      rested = put_other k.rested k.made false q (not_same q k.made low) ∙ t.rested;
      named = put_other k.named k.made false q (not_same q k.made low) ∙ t.named;
    }

    each : (q : ℕ) (o : Option KnownRequest) → slice_get (xs ++ new_sketched xs comm sig starts ∷ []) q ≡ o → IfSome o (IsKnown (making k comm sig starts) q)
    each q None e = tt
    each q (Some x) e = go (get_either xs (new_sketched xs comm sig starts) q x e)
      where
        go : (slice_get xs q ≡ Some x) ⊎ ((q ≡ length xs) × (new_sketched xs comm sig starts ≡ x)) → IsKnown (making k comm sig starts) q x
        go (inl h) = old q x (subst (λ n. q < n) s.made (slice_get_within xs q x h)) (some_at (IsKnown k q) (slice_get xs q) x (s.each q) h)
        go (inr h) = subst (IsKnown (making k comm sig starts) q) h.1 (new q (h.0 ∙ s.made))

pub is_started : (xs : List KnownRequest) (k : Sketch) (q : ℕ) (x y : KnownRequest) → IsSketch xs k → slice_get xs q ≡ Some x
    → y ≡ record x { starts = suc x.starts; is_rested = false; is_named = false } → length (set xs q y) ≡ length xs → IsSketch (set xs q y) (starting k q)
is_started xs k q x y s some is len =
    record {
      made = len ∙ s.made;
      posted =
          λ c. count_changed (λ x. eqb x.comm c) xs q x y some (ap (λ (t : KnownRequest). eqb t.comm c) is) ∙ s.posted c;
      each =
          λ i. each i (slice_get (set xs q y) i) refl;
    }
  where
    here : IsKnown k q x
    here = some_at (IsKnown k q) (slice_get xs q) x (s.each q) some

    new : IsKnown (starting k q) q y
    new = record {
      comm = here.comm ∙ ap (λ (t : KnownRequest). t.comm) (sym is);
      place = here.place ∙ ap (λ (t : KnownRequest). t.place) (sym is);
      sig = here.sig ∙ ap (λ (t : KnownRequest). Some t.sig) (sym is);
      starts = put_at k.starts q (suc (k.starts q)) q refl ∙ (ap suc here.starts ∙ ap (λ (t : KnownRequest). t.starts) (sym is));
      rested = put_at k.rested q false q refl ∙ ap (λ (t : KnownRequest). t.is_rested) (sym is);
      named = put_at k.named q false q refl ∙ ap (λ (t : KnownRequest). t.is_named) (sym is);
    }

    old : (i : ℕ) (z : KnownRequest) → (i ≡ q → ⊥) → IsKnown k i z → IsKnown (starting k q) i z
    old i z d t = record {
      comm = t.comm;
      place = t.place;
      sig = t.sig;
      starts = put_other k.starts q (suc (k.starts q)) i d ∙ t.starts;
      rested = put_other k.rested q false i d ∙ t.rested;
      named = put_other k.named q false i d ∙ t.named;
    }

    each : (i : ℕ) (o : Option KnownRequest) → slice_get (set xs q y) i ≡ o → IfSome o (IsKnown (starting k q) i)
    each i None e = tt
    each i (Some z) e = go (get_changed xs q y i z e)
      where
        go : ((i ≡ q) × (y ≡ z)) ⊎ ((i ≡ q → ⊥) × (slice_get xs i ≡ Some z)) → IsKnown (starting k q) i z
        go (inl a) = subst (IsKnown (starting k q) i) a.1 (subst (λ (i : ℕ). IsKnown (starting k q) i y) (sym a.0) new)
        go (inr a) = old i z a.0 (some_at (IsKnown k i) (slice_get xs i) z (s.each i) a.1)

-- the change that a start makes
pub started_at : (xs : List KnownRequest) (k : Sketch) (q : ℕ) (x : KnownRequest) → q < length xs → x ≡ get_or xs q x
    → IsSketch xs k → IsSketch (set xs q (record x { starts = x.starts + 1; is_rested = false; is_named = false })) (starting k q)
started_at xs k q x low is s =
    is_started xs k q x (record x { starts = x.starts + 1; is_rested = false; is_named = false }) s
    (get_at xs q x low ∙ ap Some (sym is)) (ap (λ (n : ℕ). record x { starts = n; is_rested = false; is_named = false }) (next x.starts))
    (length-set xs q (record x { starts = x.starts + 1; is_rested = false; is_named = false }))
  where
    next : (n : ℕ) → n + 1 ≡ suc n
    next n = omega arith

-- ---- requests that a call has named

unnamed_still : (a b : Bool) → b ≡ false → (a || b) ≡ a
unnamed_still true b e = refl
unnamed_still false b e = e

named_now : (a b : Bool) → b ≡ true → (a || b) ≡ true
named_now true b e = refl
named_now false b e = e

named_in_turn : (a b c d : Bool) → d ≡ (b || c) → (a || d) ≡ ((a || b) || (c || false))
named_in_turn true b c d e = refl
named_in_turn false true c d e = e
named_in_turn false false true d e = e
named_in_turn false false false d e = e

not_one : (i q : ℕ) → (i ≡ q → ⊥) → is_among i (q ∷ []) ≡ false
not_one i q d = rw (ne_eqb q i (λ e. d (sym e))) refl

is_one : (q : ℕ) → is_among q (q ∷ []) ≡ true
is_one q = rw (eq-eqb q q refl) refl

renamed : (xs : List KnownRequest) (k : Sketch) (ys : List KnownRequest) (qs : List ℕ) → IsSketch xs k → length ys ≡ length xs
    → ((c : ℕ) → count_by (λ x. eqb x.comm c) ys ≡ count_by (λ x. eqb x.comm c) xs)
    → ((i : ℕ) (z : KnownRequest) → slice_get ys i ≡ Some z → IsKnown (naming k qs) i z) → IsSketch ys (naming k qs)
renamed xs k ys qs s len count each = record { made = len ∙ s.made; posted = λ c. count c ∙ s.posted c; each = λ i. go i (slice_get ys i) refl }
  where
    go : (i : ℕ) (o : Option KnownRequest) → slice_get ys i ≡ o → IfSome o (IsKnown (naming k qs) i)
    go i None e = tt
    go i (Some z) e = each i z e

still_named : (k : Sketch) (qs : List ℕ) (i : ℕ) (z : KnownRequest) → is_among i qs ≡ false → IsKnown k i z → IsKnown (naming k qs) i z
still_named k qs i z other t = record {
  comm = t.comm;
  place = t.place;
  sig = t.sig;
  starts = t.starts;
  rested = t.rested;
  named = unnamed_still (k.named i) (is_among i qs) other ∙ t.named;
}

is_named : (xs : List KnownRequest) (k : Sketch) (q : ℕ) (x y : KnownRequest) → IsSketch xs k → slice_get xs q ≡ Some x
    → y ≡ record x { is_named = true } → length (set xs q y) ≡ length xs → IsSketch (set xs q y) (naming k (q ∷ []))
is_named xs k q x y s some is len =
    renamed xs k (set xs q y) (q ∷ []) s len
    (λ c. count_changed (λ x. eqb x.comm c) xs q x y some (ap (λ (t : KnownRequest). eqb t.comm c) is)) (λ i z e. go i z (get_changed xs q y i z e))
  where
    here : IsKnown k q x
    here = some_at (IsKnown k q) (slice_get xs q) x (s.each q) some

    new : IsKnown (naming k (q ∷ [])) q y
    new = record {
      comm = here.comm ∙ ap (λ (t : KnownRequest). t.comm) (sym is);
      place = here.place ∙ ap (λ (t : KnownRequest). t.place) (sym is);
      sig = here.sig ∙ ap (λ (t : KnownRequest). Some t.sig) (sym is);
      starts = here.starts ∙ ap (λ (t : KnownRequest). t.starts) (sym is);
      rested = here.rested ∙ ap (λ (t : KnownRequest). t.is_rested) (sym is);
      named = named_now (k.named q) (is_among q (q ∷ [])) (is_one q) ∙ ap (λ (t : KnownRequest). t.is_named) (sym is);
    }

    go : (i : ℕ) (z : KnownRequest) → ((i ≡ q) × (y ≡ z)) ⊎ ((i ≡ q → ⊥) × (slice_get xs i ≡ Some z)) → IsKnown (naming k (q ∷ [])) i z
    go i z (inl a) = subst (IsKnown (naming k (q ∷ [])) i) a.1 (subst (λ (i : ℕ). IsKnown (naming k (q ∷ [])) i y) (sym a.0) new)
    go i z (inr a) = still_named k (q ∷ []) i z (not_one i q a.0) (some_at (IsKnown k i) (slice_get xs i) z (s.each i) a.1)

pub is_named_beyond : (xs : List KnownRequest) (k : Sketch) (q : ℕ) → IsSketch xs k → length xs ≤ q → IsSketch xs (naming k (q ∷ []))
is_named_beyond xs k q s far =
    renamed xs k xs (q ∷ []) s refl (λ c. refl)
    (λ i z e. still_named k (q ∷ []) i z (not_one i q (other i z e)) (some_at (IsKnown k i) (slice_get xs i) z (s.each i) e))
  where
    other : (i : ℕ) (z : KnownRequest) → slice_get xs i ≡ Some z → i ≡ q → ⊥
    other i z e same = let low : i < length xs = slice_get_within xs i z e in absurd (omega arith)

pub is_unnamed : (xs : List KnownRequest) (k : Sketch) → IsSketch xs k → IsSketch xs (naming k [])
is_unnamed xs k s = renamed xs k xs [] s refl (λ c. refl) (λ i z e. still_named k [] i z refl (some_at (IsKnown k i) (slice_get xs i) z (s.each i) e))

-- one after the other is all together
pub is_named_more : (xs : List KnownRequest) (k : Sketch) (qs rs : List ℕ) (q : ℕ)
    → ((i : ℕ) → is_among i rs ≡ (is_among i qs || eqb q i)) → IsSketch xs (naming (naming k qs) (q ∷ [])) → IsSketch xs (naming k rs)
is_named_more xs k qs rs q all s = record { made = s.made; posted = s.posted; each = λ i. go i (slice_get xs i) (s.each i) }
  where
    go : (i : ℕ) (o : Option KnownRequest) → IfSome o (IsKnown (naming (naming k qs) (q ∷ [])) i) → IfSome o (IsKnown (naming k rs) i)
    go i None h = tt
    go i (Some z) h =
        record {
          comm = h.comm;
          place = h.place;
          sig = h.sig;
          starts = h.starts;
          rested = h.rested;
          named =
              named_in_turn (k.named i) (is_among i qs) (eqb q i) (is_among i rs) (all i) ∙ h.named;
        }

-- the change that a call makes to one
pub named_at : (xs : List KnownRequest) (k : Sketch) (q : ℕ) (x : KnownRequest) → q < length xs → x ≡ get_or xs q x
    → IsSketch xs k → IsSketch (set xs q (record x { is_named = true })) (naming k (q ∷ []))
named_at xs k q x low is s =
    is_named xs k q x (record x { is_named = true }) s (get_at xs q x low ∙ ap Some (sym is)) refl (length-set xs q (record x { is_named = true }))

-- ---- requests that have been waited for

-- the sketch is read at each request
resketched : (xs : List KnownRequest) (k : Sketch) (ys : List KnownRequest) (qs : List ℕ) → IsSketch xs k → length ys ≡ length xs
    → ((c : ℕ) → count_by (λ x. eqb x.comm c) ys ≡ count_by (λ x. eqb x.comm c) xs)
    → ((i : ℕ) (z : KnownRequest) → slice_get ys i ≡ Some z → IsKnown (resting k qs) i z) → IsSketch ys (resting k qs)
resketched xs k ys qs s len count each = record { made = len ∙ s.made; posted = λ c. count c ∙ s.posted c; each = λ i. go i (slice_get ys i) refl }
  where
    go : (i : ℕ) (o : Option KnownRequest) → slice_get ys i ≡ o → IfSome o (IsKnown (resting k qs) i)
    go i None e = tt
    go i (Some z) e = each i z e

still_sketched : (k : Sketch) (qs : List ℕ) (i : ℕ) (z : KnownRequest) → is_among i qs ≡ false → IsKnown k i z → IsKnown (resting k qs) i z
still_sketched k qs i z other t = record {
  comm = t.comm;
  place = t.place;
  sig = t.sig;
  starts = t.starts;
  rested = unnamed_still (k.rested i) (is_among i qs) other ∙ t.rested;
  named = unnamed_still (k.named i) (is_among i qs) other ∙ t.named;
}

pub is_rested : (xs : List KnownRequest) (k : Sketch) (q : ℕ) (x y : KnownRequest) → IsSketch xs k → slice_get xs q ≡ Some x
    → y ≡ record x { is_rested = true; is_named = true } → length (set xs q y) ≡ length xs → IsSketch (set xs q y) (resting k (q ∷ []))
is_rested xs k q x y s some is len =
    resketched xs k (set xs q y) (q ∷ []) s len
    (λ c. count_changed (λ x. eqb x.comm c) xs q x y some (ap (λ (t : KnownRequest). eqb t.comm c) is)) (λ i z e. go i z (get_changed xs q y i z e))
  where
    here : IsKnown k q x
    here = some_at (IsKnown k q) (slice_get xs q) x (s.each q) some

    new : IsKnown (resting k (q ∷ [])) q y
    new = record {
      comm = here.comm ∙ ap (λ (t : KnownRequest). t.comm) (sym is);
      place = here.place ∙ ap (λ (t : KnownRequest). t.place) (sym is);
      sig = here.sig ∙ ap (λ (t : KnownRequest). Some t.sig) (sym is);
      starts = here.starts ∙ ap (λ (t : KnownRequest). t.starts) (sym is);
      rested = named_now (k.rested q) (is_among q (q ∷ [])) (is_one q) ∙ ap (λ (t : KnownRequest). t.is_rested) (sym is);
      named = named_now (k.named q) (is_among q (q ∷ [])) (is_one q) ∙ ap (λ (t : KnownRequest). t.is_named) (sym is);
    }

    go : (i : ℕ) (z : KnownRequest) → ((i ≡ q) × (y ≡ z)) ⊎ ((i ≡ q → ⊥) × (slice_get xs i ≡ Some z)) → IsKnown (resting k (q ∷ [])) i z
    go i z (inl a) = subst (IsKnown (resting k (q ∷ [])) i) a.1 (subst (λ (i : ℕ). IsKnown (resting k (q ∷ [])) i y) (sym a.0) new)
    go i z (inr a) = still_sketched k (q ∷ []) i z (not_one i q a.0) (some_at (IsKnown k i) (slice_get xs i) z (s.each i) a.1)

pub is_beyond : (xs : List KnownRequest) (k : Sketch) (q : ℕ) → IsSketch xs k → length xs ≤ q → IsSketch xs (resting k (q ∷ []))
is_beyond xs k q s far =
    resketched xs k xs (q ∷ []) s refl (λ c. refl)
    (λ i z e. still_sketched k (q ∷ []) i z (not_one i q (other i z e)) (some_at (IsKnown k i) (slice_get xs i) z (s.each i) e))
  where
    other : (i : ℕ) (z : KnownRequest) → slice_get xs i ≡ Some z → i ≡ q → ⊥
    other i z e same = let low : i < length xs = slice_get_within xs i z e in absurd (omega arith)

pub is_unrested : (xs : List KnownRequest) (k : Sketch) → IsSketch xs k → IsSketch xs (resting k [])
is_unrested xs k s = resketched xs k xs [] s refl (λ c. refl) (λ i z e. still_sketched k [] i z refl (some_at (IsKnown k i) (slice_get xs i) z (s.each i) e))

-- one after the other is all together
pub is_rested_more : (xs : List KnownRequest) (k : Sketch) (qs rs : List ℕ) (q : ℕ)
    → ((i : ℕ) → is_among i rs ≡ (is_among i qs || eqb q i)) → IsSketch xs (resting (resting k qs) (q ∷ [])) → IsSketch xs (resting k rs)
is_rested_more xs k qs rs q all s = record { made = s.made; posted = s.posted; each = λ i. go i (slice_get xs i) (s.each i) }
  where
    go : (i : ℕ) (o : Option KnownRequest) → IfSome o (IsKnown (resting (resting k qs) (q ∷ [])) i) → IfSome o (IsKnown (resting k rs) i)
    go i None h = tt
    go i (Some z) h =
        record {
          comm = h.comm;
          place = h.place;
          sig = h.sig;
          starts = h.starts;
          rested =
              named_in_turn (k.rested i) (is_among i qs) (eqb q i) (is_among i rs) (all i) ∙ h.rested;
          named =
              named_in_turn (k.named i) (is_among i qs) (eqb q i) (is_among i rs) (all i) ∙ h.named;
        }

-- the change that a wait makes
pub rested_at : (xs : List KnownRequest) (k : Sketch) (q : ℕ) (x : KnownRequest) → q < length xs → x ≡ get_or xs q x
    → IsSketch xs k → IsSketch (set xs q (record x { is_rested = true; is_named = true })) (resting k (q ∷ []))
rested_at xs k q x low is s =
    is_rested xs k q x (record x { is_rested = true; is_named = true }) s (get_at xs q x low ∙ ap Some (sym is)) refl
    (length-set xs q (record x { is_rested = true; is_named = true }))
