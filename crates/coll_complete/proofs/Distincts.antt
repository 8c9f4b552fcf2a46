-- Lists in which no ticket stands twice.
use Rattle.std.proofs.Common.{◌≡◌, ℕ, zero, suc, ◌<◌, ◌≤◌, ◌+◌, ◌-◌, ◌⊎◌, inl, inr, Bool, true, false, length, nat_lt, refl, sym, ap, subst, ◌∙◌}
use Rattle.std.proofs.Common.{arith, ltb-true, ltb-false, List, [], ◌∷◌, take, drop, Option, Some, None}
use Rattle.std.proofs.lemmas.Bool.{cases_eq}
use Rattle.std.proofs.lemmas.List.{take_rest}
use Rattle.std.proofs.lemmas.Option.{slice_get_within}
use Rattle.std.specs.Prelude.{slice_get}
use Rattle.coll_kinds.specs.declared.ticket.Ticket.{Ticket}
use Rattle.coll_complete.specs.Requests.{AreDistinct}

-- no ticket below position i stands further on
abbrev pub Apart : List (Option Ticket) → ℕ → Type 0
Apart list i =
    (a b : ℕ) (t : Ticket) → a < i → a < b → slice_get list a ≡ Some (Some t) → slice_get list b ≡ Some (Some t) → ⊥

-- one position more
pub apart-more : (list : List (Option Ticket)) (i : ℕ) → Apart list i
    → ((b : ℕ) (t : Ticket) → i < b → slice_get list i ≡ Some (Some t) → slice_get list b ≡ Some (Some t) → ⊥)
    → Apart list (i + 1)
apart-more list i before here a b t lt less at_a at_b = go (cases_eq a i)
  where
    go : (a ≡ i) ⊎ (a ≡ i → ⊥) → ⊥
    go (inl e) = here b t (omega arith) (subst (λ a. slice_get list a ≡ Some (Some t)) e at_a) at_b
    go (inr d) = before a b t (omega arith) less at_a at_b

pub distinct-apart : (list : List (Option Ticket)) (i : ℕ) → length list ≤ i → Apart list i → AreDistinct list
distinct-apart list i le apart a b t at_a at_b = go (cases_eq a b)
  where
    low : (k : ℕ) → slice_get list k ≡ Some (Some t) → k < i
    low k at = let h = slice_get_within list k (Some t) at in omega (arith, h)

    go : (a ≡ b) ⊎ (a ≡ b → ⊥) → a ≡ b
    go (inl e) = e
    go (inr d) = absurd (first_less (nat_lt a b) refl)
      where
        first_less : (c : Bool) → nat_lt a b ≡ c → ⊥
        first_less true e = apart a b t (low a at_a) (ltb-true a b e) at_a at_b
        first_less false e = apart b a t (low b at_b) (let h : b ≤ a = ltb-false a b e in omega (arith, h, d)) at_b at_a

slice_get-drop : {X : Type 0} (xs : List X) (i k : ℕ) → slice_get (drop i xs) k ≡ slice_get xs (i + k)
slice_get-drop xs zero k = let e : k ≡ 0 + k = omega arith in ap (slice_get xs) e
slice_get-drop [] (suc i) k = refl
slice_get-drop (x ∷ xs) (suc i) k = let e : suc (i + k) ≡ suc i + k =
    omega arith in slice_get-drop xs i k ∙ ap (slice_get (x ∷ xs)) e

-- the ticket at position i doesn't stand in the rest of the list
pub apart-some : (list : List (Option Ticket)) (i : ℕ) (u : Ticket) → Apart list i → slice_get list i ≡ Some (Some u)
    → ((k : ℕ) × (slice_get (take (length list - (i + 1)) (drop (i + 1) list)) k ≡ Some (Some u)) → ⊥)
    → Apart list (i + 1)
apart-some list i u before is off =
    apart-more list i before (λ b t lt at_i at_b. off (b - (i + 1), found b t lt at_i at_b))
  where
    found : (b : ℕ) (t : Ticket) → i < b → slice_get list i ≡ Some (Some t) → slice_get list b ≡ Some (Some t)
        → slice_get (take (length list - (i + 1)) (drop (i + 1) list)) (b - (i + 1)) ≡ Some (Some u)
    found b t lt at_i at_b =
        let e : (i + 1) + (b - (i + 1)) ≡ b = omega arith in
        ap (λ (xs : List (Option Ticket)). slice_get xs (b - (i + 1))) (take_rest list (i + 1))
        ∙ (slice_get-drop list (i + 1) (b - (i + 1)) ∙ (ap (slice_get list) e ∙ (at_b ∙ (sym at_i ∙ is))))

pub apart-none : (list : List (Option Ticket)) (i : ℕ) → Apart list i → slice_get list i ≡ Some None
    → Apart list (i + 1)
apart-none list i before is =
    apart-more list i before (λ b t lt at_i at_b. let e : Some None ≡ Some (Some t) = sym is ∙ at_i in cc)
