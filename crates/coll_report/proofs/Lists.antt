-- Lists with one more element or one place changed, and the requests on a communicator.
use Rattle.std.proofs.Common.{◌≡◌, ℕ, zero, suc, ◌≤◌, ◌⊎◌, inl, inr, Bool, true, false, cond, eqb, List, [], ◌∷◌, ◌++◌, length, take, map, Some, refl}
use Rattle.std.proofs.Common.{sym, ap, ◌∙◌, arith, eq-eqb, ne_eqb, append_assoc, append-nil}
use Rattle.std.specs.Prelude.{slice_get}
use Rattle.std.proofs.lemmas.Option.{none-some, same_Some}
use Rattle.std.proofs.lemmas.Bool.{cases_eq}
use Rattle.coll_kinds.specs.declared.signature.Signature.{Signature}
use Rattle.coll_machine.proofs.Pushed.{get_front}
use Rattle.coll_report.specs.Scripts.{Command, Post, Init, Start, Other, Asked, asked_at, one_more, changed_at, asked_from, on, at_place}

-- ---- one more element

pub take_front : {X : Type 0} (xs : List X) (x : X) (k : ℕ) → k ≤ length xs → take k (xs ++ x ∷ []) ≡ take k xs
take_front [] x zero le = refl
take_front [] x (suc k) le = absurd (omega arith)
take_front (y ∷ xs) x zero le = refl
take_front {X} (y ∷ xs) x (suc k) le = ap (λ (l : List X). y ∷ l) (take_front xs x k (omega arith))

pub take_pushed : {X : Type 0} (xs : List X) (x : X) → take (length xs) (xs ++ x ∷ []) ≡ xs
take_pushed [] x = refl
take_pushed {X} (y ∷ xs) x = ap (λ (l : List X). y ∷ l) (take_pushed xs x)

pub map_pushed : {X Y : Type 0} (f : X → Y) (xs : List X) (x : X) → map f (xs ++ x ∷ []) ≡ map f xs ++ f x ∷ []
map_pushed f [] x = refl
map_pushed {X} {Y} f (y ∷ xs) x = ap (λ (l : List Y). f y ∷ l) (map_pushed f xs x)

pub get_map : {X Y : Type 0} (f : X → Y) (xs : List X) (k : ℕ) (x : X) → slice_get xs k ≡ Some x → slice_get (map f xs) k ≡ Some (f x)
get_map f [] k x e = absurd (none-some x e)
get_map f (y ∷ xs) zero x e = ap (λ z. Some (f z)) (same_Some y x e)
get_map f (y ∷ xs) (suc k) x e = get_map f xs k x e

pub get_longer : {X : Type 0} (xs ys : List X) (i : ℕ) (x : X) → slice_get xs i ≡ Some x → slice_get (xs ++ ys) i ≡ Some x
get_longer [] ys i x e = absurd (none-some x e)
get_longer (y ∷ xs) ys zero x e = e
get_longer (y ∷ xs) ys (suc i) x e = get_longer xs ys i x e

-- ---- one place changed

pub length-changed : {X : Type 0} (k : ℕ) (f : X → X) (xs : List X) → length (changed_at k f xs) ≡ length xs
length-changed k f [] = refl
length-changed zero f (x ∷ xs) = refl
length-changed (suc k) f (x ∷ xs) = ap suc (length-changed k f xs)

pub get_changed : {X : Type 0} (k : ℕ) (f : X → X) (xs : List X) (x : X) → slice_get xs k ≡ Some x → slice_get (changed_at k f xs) k ≡ Some (f x)
get_changed k f [] x e = absurd (none-some x e)
get_changed zero f (y ∷ xs) x e = ap (λ z. Some (f z)) (same_Some y x e)
get_changed (suc k) f (y ∷ xs) x e = get_changed k f xs x e

pub get_unchanged : {X : Type 0} (k : ℕ) (f : X → X) (xs : List X) (j : ℕ) → (j ≡ k → ⊥) → slice_get (changed_at k f xs) j ≡ slice_get xs j
get_unchanged k f [] j d = refl
get_unchanged zero f (x ∷ xs) zero d = absurd (d refl)
get_unchanged zero f (x ∷ xs) (suc j) d = refl
get_unchanged (suc k) f (x ∷ xs) zero d = refl
get_unchanged (suc k) f (x ∷ xs) (suc j) d = get_unchanged k f xs j (λ e. d (ap suc e))

pub changed_last : {X : Type 0} (f : X → X) (xs : List X) (y : X) → changed_at (length xs) f (xs ++ y ∷ []) ≡ xs ++ f y ∷ []
changed_last f [] y = refl
changed_last {X} f (x ∷ xs) y = ap (λ (l : List X). x ∷ l) (changed_last f xs y)

-- ---- the requests on a communicator

on_yes : (c : ℕ) (x : Asked) (xs : List Asked) → x.comm ≡ c → on c (x ∷ xs) ≡ x ∷ on c xs
on_yes c x xs e = ap (λ b. cond b (x ∷ on c xs) (on c xs)) (eq-eqb x.comm c e)

on_no : (c : ℕ) (x : Asked) (xs : List Asked) → (x.comm ≡ c → ⊥) → on c (x ∷ xs) ≡ on c xs
on_no c x xs d = ap (λ b. cond b (x ∷ on c xs) (on c xs)) (ne_eqb x.comm c d)

pub on_pushed : (c : ℕ) (xs : List Asked) (y : Asked) → y.comm ≡ c → on c (xs ++ y ∷ []) ≡ on c xs ++ y ∷ []
on_pushed c [] y e = on_yes c y [] e
on_pushed c (x ∷ xs) y e = go (eqb x.comm c) (on_pushed c xs y e)
  where
    go : (b : Bool) → on c (xs ++ y ∷ []) ≡ on c xs ++ y ∷ []
        → cond b (x ∷ on c (xs ++ y ∷ [])) (on c (xs ++ y ∷ [])) ≡ cond b (x ∷ on c xs) (on c xs) ++ y ∷ []
    go true h = ap (λ (l : List Asked). x ∷ l) h
    go false h = h

pub on_others : (c : ℕ) (xs : List Asked) (y : Asked) → (y.comm ≡ c → ⊥) → on c (xs ++ y ∷ []) ≡ on c xs
on_others c [] y d = on_no c y [] d
on_others c (x ∷ xs) y d = ap (λ (l : List Asked). cond (eqb x.comm c) (x ∷ l) l) (on_others c xs y d)

-- a request stands at the place that those before it on its communicator leave
pub placed : (c : ℕ) (xs : List Asked) (q : ℕ) (x : Asked) → slice_get xs q ≡ Some x → x.comm ≡ c → at_place xs c (length (on c (take q xs))) ≡ Some x
placed c [] q x e on_c = absurd (none-some x e)
placed c (y ∷ xs) zero x e on_c = ap (λ (l : List Asked). slice_get l 0) (on_yes c y xs (ap (λ (r : Asked). r.comm) (same_Some y x e) ∙ on_c)) ∙ e
placed c (y ∷ xs) (suc q) x e on_c = go (eqb y.comm c) (placed c xs q x e on_c)
  where
    go : (b : Bool) → at_place xs c (length (on c (take q xs))) ≡ Some x
        → slice_get (cond b (y ∷ on c xs) (on c xs)) (length (cond b (y ∷ on c (take q xs)) (on c (take q xs)))) ≡ Some x
    go true h = h
    go false h = h

-- ---- a request with one more start

-- the same request, started more often
abbrev pub grown : Asked → List (List ℕ) → Asked
grown x more = asked_at x.comm x.sig (x.starts ++ more)

pub signatures_changed : (c k : ℕ) (b : List ℕ) (xs : List Asked)
    → map (λ (x : Asked). x.sig) (on c (changed_at k (one_more b) xs)) ≡ map (λ (x : Asked). x.sig) (on c xs)
signatures_changed c k b [] = refl
signatures_changed c zero b (x ∷ xs) = go (eqb x.comm c)
  where
    go : (t : Bool) → map (λ (x : Asked). x.sig) (cond t (one_more b x ∷ on c xs) (on c xs)) ≡ map (λ (x : Asked). x.sig) (cond t (x ∷ on c xs) (on c xs))
    go true = refl
    go false = refl
signatures_changed c (suc k) b (x ∷ xs) = go (eqb x.comm c) (signatures_changed c k b xs)
  where
    go : (t : Bool) → map (λ (x : Asked). x.sig) (on c (changed_at k (one_more b) xs)) ≡ map (λ (x : Asked). x.sig) (on c xs)
        → map (λ (x : Asked). x.sig) (cond t (x ∷ on c (changed_at k (one_more b) xs)) (on c (changed_at k (one_more b) xs)))
        ≡ map (λ (x : Asked). x.sig) (cond t (x ∷ on c xs) (on c xs))
    go true h = ap (λ (l : List Signature). x.sig ∷ l) h
    go false h = h

pub place_unchanged : (c k : ℕ) (b : List ℕ) (xs : List Asked) (j : ℕ) → length (on c (take j (changed_at k (one_more b) xs))) ≡ length (on c (take j xs))
place_unchanged c k b [] j = refl
place_unchanged c zero b (x ∷ xs) zero = refl
place_unchanged c (suc k) b (x ∷ xs) zero = refl
place_unchanged c zero b (x ∷ xs) (suc j) = go (eqb x.comm c)
  where
    go : (t : Bool) → length (cond t (one_more b x ∷ on c (take j xs)) (on c (take j xs))) ≡ length (cond t (x ∷ on c (take j xs)) (on c (take j xs)))
    go true = refl
    go false = refl
place_unchanged c (suc k) b (x ∷ xs) (suc j) = go (eqb x.comm c) (place_unchanged c k b xs j)
  where
    go : (t : Bool) → length (on c (take j (changed_at k (one_more b) xs))) ≡ length (on c (take j xs))
        → length (cond t (x ∷ on c (take j (changed_at k (one_more b) xs))) (on c (take j (changed_at k (one_more b) xs))))
        ≡ length (cond t (x ∷ on c (take j xs)) (on c (take j xs)))
    go true h = ap suc h
    go false h = h

-- ---- requests only grow

-- each request stays at its place, perhaps with further starts
abbrev pub Grows : List Asked → List Asked → Type 0
Grows xs ys = (c p : ℕ) (x : Asked) → at_place xs c p ≡ Some x → (more : List (List ℕ)) × (at_place ys c p ≡ Some (grown x more))

grown_self : (x : Asked) → grown x [] ≡ x
grown_self x = ap (asked_at x.comm x.sig) (append-nil x.starts)

pub grows_self : (xs : List Asked) → Grows xs xs
grows_self xs c p x e = ([], e ∙ ap Some (sym (grown_self x)))

pub grows_trans : (xs ys zs : List Asked) → Grows xs ys → Grows ys zs → Grows xs zs
grows_trans xs ys zs f g c p x e =
    let a = f c p x e in
    let b = g c p (grown x a.0) a.1 in
    (a.0 ++ b.0, b.1 ∙ ap (λ (l : List (List ℕ)). Some (asked_at x.comm x.sig l)) (append_assoc x.starts a.0 b.0))

pub grows_push : (xs : List Asked) (y : Asked) → Grows xs (xs ++ y ∷ [])
grows_push xs y c p x e = go (cases_eq y.comm c)
  where
    go : (y.comm ≡ c) ⊎ (y.comm ≡ c → ⊥) → (more : List (List ℕ)) × (at_place (xs ++ y ∷ []) c p ≡ Some (grown x more))
    go (inl h) = ([], ap (λ (l : List Asked). slice_get l p) (on_pushed c xs y h) ∙ (get_front (on c xs) y p x e ∙ ap Some (sym (grown_self x))))
    go (inr d) = ([], ap (λ (l : List Asked). slice_get l p) (on_others c xs y d) ∙ (e ∙ ap Some (sym (grown_self x))))

pub grows_change : (k : ℕ) (b : List ℕ) (xs : List Asked) → Grows xs (changed_at k (one_more b) xs)
grows_change k b [] c p x e = absurd (none-some x e)
grows_change zero b (y ∷ xs) c p x e = go (eqb y.comm c) p e
  where
    go : (t : Bool) (p : ℕ) → slice_get (cond t (y ∷ on c xs) (on c xs)) p ≡ Some x
        → (more : List (List ℕ)) × (slice_get (cond t (one_more b y ∷ on c xs) (on c xs)) p ≡ Some (grown x more))
    go true zero h = (b ∷ [], ap (λ (z : Asked). Some (grown z (b ∷ []))) (same_Some y x h))
    go true (suc p) h = ([], h ∙ ap Some (sym (grown_self x)))
    go false p h = ([], h ∙ ap Some (sym (grown_self x)))
grows_change (suc k) b (y ∷ xs) c p x e = go (eqb y.comm c) p (λ p. grows_change k b xs c p x) e
  where
    go : (t : Bool) (p : ℕ)
        → ((p : ℕ) → at_place xs c p ≡ Some x → (more : List (List ℕ)) × (at_place (changed_at k (one_more b) xs) c p ≡ Some (grown x more)))
        → slice_get (cond t (y ∷ on c xs) (on c xs)) p ≡ Some x
        → (more : List (List ℕ)) × (slice_get (cond t (y ∷ on c (changed_at k (one_more b) xs)) (on c (changed_at k (one_more b) xs))) p ≡ Some (grown x more))
    go true zero f h = ([], h ∙ ap Some (sym (grown_self x)))
    go true (suc p) f h = f p h
    go false p f h = f p h

pub grows_asked : (cs : List Command) (xs : List Asked) → Grows xs (asked_from xs cs)
grows_asked [] xs = grows_self xs
grows_asked (Post comm sig given ∷ cs) xs =
    grows_trans xs (xs ++ asked_at comm sig (given ∷ []) ∷ []) (asked_from xs (Post comm sig given ∷ cs))
    (grows_push xs (asked_at comm sig (given ∷ []))) (grows_asked cs (xs ++ asked_at comm sig (given ∷ []) ∷ []))
grows_asked (Init comm sig ∷ cs) xs =
    grows_trans xs (xs ++ asked_at comm sig [] ∷ []) (asked_from xs (Init comm sig ∷ cs)) (grows_push xs (asked_at comm sig []))
    (grows_asked cs (xs ++ asked_at comm sig [] ∷ []))
grows_asked (Start q given ∷ cs) xs =
    grows_trans xs (changed_at q (one_more given) xs) (asked_from xs (Start q given ∷ cs)) (grows_change q given xs)
    (grows_asked cs (changed_at q (one_more given) xs))
grows_asked (Other ∷ cs) xs = grows_asked cs xs
