-- What further commands leave of what is said of a request.
use Rattle.std.proofs.Common.{◌≡◌, ℕ, zero, suc, ◌<◌, ◌≤◌, ◌⊎◌, inl, inr, false, List, [], ◌∷◌, Option, Some, None, refl, sym, ap, subst, ◌∙◌, arith}
use Rattle.std.proofs.lemmas.Bool.{cases_eq}
use Rattle.std.specs.Prelude.{slice_get}
use Rattle.coll_kinds.specs.declared.signature.Signature.{Signature}
use Rattle.coll_kinds.specs.Puts.{put}
use Rattle.coll_kinds.proofs.Puts.{put_other, put_cases}
use Rattle.coll_parser.specs.declared.command.Command.{Command}
use Rattle.coll_parser.specs.declared.command.Command.TheVariants.{Post, Init, Start, Wait, Test, Free, WaitAny, WaitSome, WaitAll}
use Rattle.coll_verdict.specs.Sketches.{Sketch, making, starting, naming, resting, sketched, sketched_if, sketch_at}

-- ---- numbers and tests

pub not_same : (q n : ℕ) → q < n → q ≡ n → ⊥
not_same q n low e = absurd (omega arith)

pub le_of : (a b : ℕ) → b ≡ a → a ≤ b
le_of a b e = omega arith

pub lt_le : (a b c : ℕ) → a < b → b ≤ c → a < c
lt_le a b c l m = omega arith

pub le_le : (a b c : ℕ) → a ≤ b → b ≤ c → a ≤ c
le_le a b c l m = omega arith

one_up : (x y z : ℕ) → x ≡ y → z ≡ suc y → x ≤ z
one_up x y z e h = omega arith

-- ---- more commands

-- more is said, and what was said of a request stands, but that it may be started more often
pub record Grows (j k : Sketch) : Type 0 where
  pub made : j.made ≤ k.made
  pub comm : (q : ℕ) → q < j.made → k.comm q ≡ j.comm q
  pub place : (q : ℕ) → q < j.made → k.place q ≡ j.place q
  pub sig : (q : ℕ) → q < j.made → k.sig q ≡ j.sig q
  pub starts : (q : ℕ) → q < j.made → j.starts q ≤ k.starts q

pub same_grows : (k : Sketch) → Grows k k
same_grows k =
    record { made = omega arith; comm = λ q low. refl; place = λ q low. refl; sig = λ q low. refl; starts = λ q low. le_of (k.starts q) (k.starts q) refl }

pub grows_on : (j k l : Sketch) → Grows j k → Grows k l → Grows j l
grows_on j k l a b = record {
  made = le_le j.made k.made l.made a.made b.made;
  comm = λ q low. b.comm q (lt_le q j.made k.made low a.made) ∙ a.comm q low;
  place = λ q low. b.place q (lt_le q j.made k.made low a.made) ∙ a.place q low;
  sig = λ q low. b.sig q (lt_le q j.made k.made low a.made) ∙ a.sig q low;
  starts = λ q low. le_le (j.starts q) (k.starts q) (l.starts q) (a.starts q low) (b.starts q (lt_le q j.made k.made low a.made));
}

pub making_grows : (k : Sketch) (comm : ℕ) (sig : Signature) (starts : ℕ) → Grows k (making k comm sig starts)
making_grows k comm sig starts = record {
  made = omega arith;
  comm = λ q low. put_other k.comm k.made comm q (not_same q k.made low);
  place = λ q low. put_other k.place k.made (k.posted comm) q (not_same q k.made low);
  sig = λ q low. put_other k.sig k.made (Some sig) q (not_same q k.made low);
  starts = λ q low. le_of (k.starts q) (put k.starts k.made starts q) (put_other k.starts k.made starts q (not_same q k.made low));
}

pub counted : (f : ℕ → ℕ) (q p : ℕ) → f p ≤ put f q (suc (f q)) p
counted f q p = go (put_cases f q (suc (f q)) p)
  where
    go : ((p ≡ q) × (put f q (suc (f q)) p ≡ suc (f q))) ⊎ ((p ≡ q → ⊥) × (put f q (suc (f q)) p ≡ f p)) → f p ≤ put f q (suc (f q)) p
    go (inl a) = one_up (f p) (f q) (put f q (suc (f q)) p) (ap f a.0) a.1
    go (inr a) = le_of (f p) (put f q (suc (f q)) p) a.1

pub starting_grows : (k : Sketch) (q : ℕ) → Grows k (starting k q)
starting_grows k q = record { made = omega arith; comm = λ p low. refl; place = λ p low. refl; sig = λ p low. refl; starts = λ p low. counted k.starts q p }

pub naming_grows : (k : Sketch) (qs : List ℕ) → Grows k (naming k qs)
naming_grows k qs =
    record { made = omega arith; comm = λ q low. refl; place = λ q low. refl; sig = λ q low. refl; starts = λ q low. le_of (k.starts q) (k.starts q) refl }

pub resting_grows : (k : Sketch) (qs : List ℕ) → Grows k (resting k qs)
resting_grows k qs =
    record { made = omega arith; comm = λ q low. refl; place = λ q low. refl; sig = λ q low. refl; starts = λ q low. le_of (k.starts q) (k.starts q) refl }

pub sketched_grows : (c : Command) (k : Sketch) → Grows k (sketched c k)
sketched_grows (Post comm sig given) k = making_grows k comm sig 1
sketched_grows (Init comm sig) k = making_grows k comm sig 0
sketched_grows (Start q given) k = starting_grows k q
sketched_grows (Wait q) k = resting_grows k (q ∷ [])
sketched_grows (Test q) k = naming_grows k (q ∷ [])
sketched_grows (Free q) k = same_grows k
sketched_grows (WaitAny qs) k = naming_grows k qs
sketched_grows (WaitSome qs) k = naming_grows k qs
sketched_grows (WaitAll qs) k = resting_grows k qs

sketched_if_grows : (o : Option Command) (k : Sketch) → Grows k (sketched_if o k)
sketched_if_grows None k = same_grows k
sketched_if_grows (Some c) k = sketched_grows c k

-- of a rank's commands the later stand says more
pub sketch_grows : (lines : List Command) (m n : ℕ) → m ≤ n → Grows (sketch_at lines m) (sketch_at lines n)
sketch_grows lines m zero low =
    let e : m ≡ 0 = omega arith in
    subst (λ (m : ℕ). Grows (sketch_at lines m) (sketch_at lines 0)) (sym e) (same_grows (sketch_at lines 0))
sketch_grows lines m (suc n) low = go (λ less. sketch_grows lines m n less) (cases_eq m (suc n))
  where
    go : (m ≤ n → Grows (sketch_at lines m) (sketch_at lines n)) → (m ≡ suc n) ⊎ (m ≡ suc n → ⊥) → Grows (sketch_at lines m) (sketch_at lines (suc n))
    go before (inl e) = subst (λ (m : ℕ). Grows (sketch_at lines m) (sketch_at lines (suc n))) (sym e) (same_grows (sketch_at lines (suc n)))
    go before (inr d) =
        let less : m ≤ n = omega arith in
        grows_on (sketch_at lines m) (sketch_at lines n) (sketch_at lines (suc n)) (before less) (sketched_if_grows (slice_get lines n) (sketch_at lines n))

-- ---- one request

-- the same is said of a request
pub record SameAt (j k : Sketch) (q : ℕ) : Type 0 where
  pub made : j.made ≤ k.made
  pub comm : k.comm q ≡ j.comm q
  pub place : k.place q ≡ j.place q
  pub starts : k.starts q ≡ j.starts q
  pub sig : k.sig q ≡ j.sig q
  pub rested : k.rested q ≡ j.rested q

pub same_made : (k : Sketch) (comm : ℕ) (sig : Signature) (starts : ℕ) (q : ℕ) → (q ≡ k.made → ⊥) → SameAt k (making k comm sig starts) q
same_made k comm sig starts q d = record {
  made = omega arith;
  comm = put_other k.comm k.made comm q d;
  place = put_other k.place k.made (k.posted comm) q d;
  starts = put_other k.starts k.made starts q d;
  sig = put_other k.sig k.made (Some sig) q d;
  rested = put_other k.rested k.made false q d;
}

pub same_started : (k : Sketch) (q p : ℕ) → (p ≡ q → ⊥) → SameAt k (starting k q) p
same_started k q p d = record {
  made = omega arith;
  comm = refl;
  place = refl;
  starts = put_other k.starts q (suc (k.starts q)) p d;
  sig = refl;
  rested = put_other k.rested q false p d;
}

pub same_same : (k : Sketch) (q : ℕ) → SameAt k k q
same_same k q = record { made = omega arith; comm = refl; place = refl; starts = refl; sig = refl; rested = refl }

pub same_named : (k : Sketch) (qs : List ℕ) (q : ℕ) → SameAt k (naming k qs) q
same_named k qs q = record { made = omega arith; comm = refl; place = refl; starts = refl; sig = refl; rested = refl }
