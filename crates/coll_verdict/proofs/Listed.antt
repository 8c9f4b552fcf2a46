-- Lists by their places, and tests of all or some of their items.
use Rattle.std.proofs.Common.{◌≡◌, ℕ, zero, suc, ◌+◌, ◌<◌, ◌≤◌, ◌⊎◌, inl, inr, Bool, true, false, cond, eqb, ◌||◌, List, [], ◌∷◌, ◌++◌, length, take}
use Rattle.std.proofs.Common.{set, get_or, count_by, Option, Some, None, refl, sym, ap, subst, ◌∙◌, arith, eq-eqb, eqb-true}
use Rattle.std.proofs.lemmas.Bool.{and_parts, false≢true}
use Rattle.std.proofs.lemmas.List.Sums.{sum_by_push, sum_by-cons}
use Rattle.std.proofs.lemmas.Option.{none-some, same_Some}
use Rattle.std.specs.Prelude.{slice_get, slice_index, IfSome}
use Rattle.std.specs.List.{list_any, list_all}
use Rattle.coll_kinds.specs.Groups.{is_among}

pub some_at : {X : Type 0} (P : X → Type 0) (o : Option X) (x : X) → IfSome o P → o ≡ Some x → P x
some_at P None x h e = absurd (none-some x e)
some_at P (Some y) x h e = subst P (same_Some y x e) h

pub all_at : {X : Type 0} (f : X → Bool) (xs : List X) (i : ℕ) (x : X) → list_all f xs ≡ true → slice_get xs i ≡ Some x → f x ≡ true
all_at f [] i x e some = absurd (none-some x some)
all_at f (y ∷ ys) zero x e some = ap f (sym (same_Some y x some)) ∙ (and_parts (f y) (list_all f ys) e).0
all_at f (y ∷ ys) (suc i) x e some = all_at f ys i x (and_parts (f y) (list_all f ys) e).1 some

pub any_at : {X : Type 0} (f : X → Bool) (xs : List X) → list_any f xs ≡ true → (i : ℕ) × (x : X) × (slice_get xs i ≡ Some x) × (f x ≡ true)
any_at f [] e = absurd (false≢true e)
any_at {X} f (y ∷ ys) e = go (λ e. any_at f ys e) (f y) refl e
  where
    go : (list_any f ys ≡ true → (i : ℕ) × (x : X) × (slice_get ys i ≡ Some x) × (f x ≡ true)) → (b : Bool) → f y ≡ b
        → (b || list_any f ys) ≡ true → (i : ℕ) × (x : X) × (slice_get (y ∷ ys) i ≡ Some x) × (f x ≡ true)
    go rest true is e = (0, y, refl, is)
    go rest false is e = let r = rest e in (suc r.0, r.1, r.2, r.3)

among_here : (q : ℕ) (qs : List ℕ) → is_among q (q ∷ qs) ≡ true
among_here q qs = ap (λ (b : Bool). b || list_any (λ other. eqb other q) qs) (eq-eqb q q refl)

among_more : (a b : Bool) → b ≡ true → (a || b) ≡ true
among_more true b e = refl
among_more false b e = e

pub all_among : (f : ℕ → Bool) (qs : List ℕ) → list_all f qs ≡ true → (q : ℕ) → is_among q qs ≡ true → f q ≡ true
all_among f qs e q among = let r = any_at (λ other. eqb other q) qs among in ap f (sym (eqb-true r.1 q r.3)) ∙ all_at f qs r.0 r.1 e r.2

pub any_among : (f : ℕ → Bool) (qs : List ℕ) → list_any f qs ≡ true → (q : ℕ) × (is_among q qs ≡ true) × (f q ≡ true)
any_among f [] e = absurd (false≢true e)
any_among f (y ∷ ys) e = go (λ e. any_among f ys e) (f y) refl e
  where
    go : (list_any f ys ≡ true → (q : ℕ) × (is_among q ys ≡ true) × (f q ≡ true)) → (b : Bool) → f y ≡ b
        → (b || list_any f ys) ≡ true → (q : ℕ) × (is_among q (y ∷ ys) ≡ true) × (f q ≡ true)
    go rest true is e = (y, among_here y ys, is)
    go rest false is e = let r = rest e in (r.0, among_more (eqb y r.0) (is_among r.0 ys) r.1, r.2)

pub index_at : (xs : List ℕ) (i x : ℕ) → slice_get xs i ≡ Some x → slice_index xs i ≡ x
index_at [] i x e = absurd (none-some x e)
index_at (y ∷ ys) zero x e = same_Some y x e
index_at (y ∷ ys) (suc i) x e = index_at ys i x e

pub get_changed : {X : Type 0} (xs : List X) (q : ℕ) (y : X) (i : ℕ) (z : X) → slice_get (set xs q y) i ≡ Some z
    → ((i ≡ q) × (y ≡ z)) ⊎ ((i ≡ q → ⊥) × (slice_get xs i ≡ Some z))
get_changed [] q y i z e = absurd (none-some z e)
get_changed (x ∷ xs) zero y zero z e = inl (refl, same_Some y z e)
get_changed (x ∷ xs) zero y (suc i) z e = inr (λ h. absurd (omega arith), e)
get_changed (x ∷ xs) (suc q) y zero z e = inr (λ h. absurd (omega arith), e)
get_changed (x ∷ xs) (suc q) y (suc i) z e = go (get_changed xs q y i z e)
  where
    go : ((i ≡ q) × (y ≡ z)) ⊎ ((i ≡ q → ⊥) × (slice_get xs i ≡ Some z)) → ((suc i ≡ suc q) × (y ≡ z)) ⊎ ((suc i ≡ suc q → ⊥) × (slice_get xs i ≡ Some z))
    go (inl a) = inl (ap suc a.0, a.1)
    go (inr a) = inr (λ h. a.0 (omega arith), a.1)

pub count_pushed : {X : Type 0} (p : X → Bool) (xs : List X) (x : X) → count_by p (xs ++ x ∷ []) ≡ count_by p xs + cond (p x) 1 0
count_pushed p xs x = sum_by_push (λ x. cond (p x) 1 0) xs x

pub count_changed : {X : Type 0} (p : X → Bool) (xs : List X) (q : ℕ) (x y : X) → slice_get xs q ≡ Some x → p y ≡ p x → count_by p (set xs q y) ≡ count_by p xs
count_changed p [] q x y some e = absurd (none-some x some)
count_changed p (z ∷ zs) zero x y some e =
    sum_by-cons (λ x. cond (p x) 1 0) y zs
    ∙ (ap (λ b. cond b 1 0 + count_by p zs) (e ∙ ap p (sym (same_Some z x some))) ∙ sym (sum_by-cons (λ x. cond (p x) 1 0) z zs))
count_changed p (z ∷ zs) (suc q) x y some e =
    sum_by-cons (λ x. cond (p x) 1 0) z (set zs q y)
    ∙ (ap (λ n. cond (p z) 1 0 + n) (count_changed p zs q x y some e) ∙ sym (sum_by-cons (λ x. cond (p x) 1 0) z zs))

pub get_none : {X : Type 0} (xs : List X) (i : ℕ) → i < length xs → slice_get xs i ≡ None → ⊥
get_none [] i low e = absurd (omega arith)
get_none (x ∷ xs) zero low e = none-some x (sym e)
get_none (x ∷ xs) (suc i) low e = let less : i < length xs = omega arith in get_none xs i less e

pub get_at : {X : Type 0} (xs : List X) (i : ℕ) (d : X) → i < length xs → slice_get xs i ≡ Some (get_or xs i d)
get_at [] i d low = absurd (omega arith)
get_at (x ∷ xs) zero d low = refl
get_at (x ∷ xs) (suc i) d low = let less : i < length xs = omega arith in get_at xs i d less

pub take_whole : {X : Type 0} (xs : List X) (n : ℕ) → length xs ≤ n → take n xs ≡ xs
take_whole [] zero low = refl
take_whole [] (suc n) low = refl
take_whole (x ∷ xs) zero low = absurd (omega arith)
take_whole {X} (x ∷ xs) (suc n) low = let less : length xs ≤ n = omega arith in ap (λ (ys : List X). x ∷ ys) (take_whole xs n less)
