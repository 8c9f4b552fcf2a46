-- Functions with another value at one argument.
use Rattle.std.proofs.Common.{◌≡◌, ℕ, ◌<◌, Bool, true, false, cond, eqb, List, length, set, get_or, refl, sym, ap, ◌∙◌, Option, Some, inl, inr, arith}
use Rattle.std.proofs.Common.{eq-eqb, ne_eqb}
use Rattle.std.specs.Prelude.{slice_get}
use Rattle.std.specs.Map.{lookup}
use Rattle.std.proofs.lemmas.Bool.{cases_eq, cases_lt}
use Rattle.std.proofs.lemmas.List.{get_or-set_same, get_or-set_other, length-set}
use Rattle.std.proofs.lemmas.Option.{slice_get-get_or, slice_get_past}
use Rattle.coll_kinds.specs.Puts.{put}
use Rattle.coll_kinds.proofs.Puts.{put_at, put_cases, put_other}

pub put_own : {X : Type 0} (f : ℕ → X) (k : ℕ) (x : X) → x ≡ f k → put f k x ≡ f
put_own f k x e = λ z i. at i z
  where
    at : (i : ℕ) → put f k x i ≡ f i
    at i = elim (put_cases f k x i) [
      | inl here ↦ here.1 ∙ e ∙ ap f (sym here.0)
      | inr else_where ↦ else_where.1
    ]

pub cond_map : {X Y : Type 0} (g : X → Y) (b : Bool) (x y : X) → g (cond b x y) ≡ cond b (g x) (g y)
cond_map g true x y = refl
cond_map g false x y = refl

pub slice_get-set : {X : Type 0} (xs : List X) (i : ℕ) (x : X) → i < length xs → (m : ℕ) → slice_get (set xs i x) m ≡ put (slice_get xs) i (Some x) m
slice_get-set xs i x low m = elim (cases_eq m i) [
  | inl e ↦ slice_get-get_or (set xs i x) m x (omega (arith, e, low, length-set xs i x))
      ∙ ap (λ k. Some (get_or (set xs i x) k x)) e ∙ ap Some (get_or-set_same xs i x x low) ∙ sym (put_at (slice_get xs) i (Some x) m e)
  | inr d ↦ elim (cases_lt m (length xs)) [
    | inl within ↦ slice_get-get_or (set xs i x) m x (omega (arith, within, length-set xs i x))
        ∙ ap Some (get_or-set_other xs i m x x d) ∙ sym (slice_get-get_or xs m x within) ∙ sym (put_other (slice_get xs) i (Some x) m d)
    | inr past ↦ slice_get_past (set xs i x) m (omega (arith, past, length-set xs i x)) ∙ sym (slice_get_past xs m past)
        ∙ sym (put_other (slice_get xs) i (Some x) m d)
  ]
]

pub eqb_sym : (a b : ℕ) → eqb a b ≡ eqb b a
eqb_sym a b = elim (cases_eq a b) [
  | inl e ↦ eq-eqb a b e ∙ sym (eq-eqb b a (sym e))
  | inr d ↦ ne_eqb a b d ∙ sym (ne_eqb b a (λ e. d (sym e)))
]

-- ---- a map's entries after a change at one key

pub updated : {K X : Type 0} (same : K → K → Bool) (turned : (a b : K) → same a b ≡ same b a) (es new : List (K × X)) (w : K) (x : Option X)
    → ((q : K) → lookup (same q) new ≡ cond (same w q) x (lookup (same q) es))
    → (q : K) → lookup (same q) new ≡ cond (same q w) x (lookup (same q) es)
updated same turned es new w x change q = change q ∙ (λ z. cond (turned w q z) x (lookup (same q) es))
