-- Points of a schedule: going over ends of rounds, and the actions that remain
use Rattle.std.proofs.Common.{◌≡◌, ℕ, zero, suc, ◌+◌, ◌-◌, ◌<◌, ◌≤◌, ◌⊎◌, inl, inr, List, [], ◌∷◌, length, slice_get, unwrap_or, Option, Some, refl}
use Rattle.std.proofs.Common.{sym, ap, subst, ◌∙◌, arith, add-suc, add-zero}
use Rattle.std.proofs.lemmas.Bool.{cases_eq}
use Rattle.coll_sched.specs.declared.action.Action.{Action}
use Rattle.coll_sched.specs.Common.{Parts, Progress, Tracks, actions_of, Over, IsPoint, left_in, remaining}
use Rattle.coll_kinds.specs.Puts.{put}
use Rattle.coll_sched.specs.Points.{at_point, KeepsRemaining, LowersRemaining, EndsRemaining, Ends, GoesOver}
use Rattle.coll_sched.proofs.Counts.{put_same, put_other}
use Rattle.coll_sched.proofs.Views.{tracks_agrees, skips}

-- the actions of a round in a list of rounds
round_in : List (List Action) → ℕ → List Action
round_in rounds j = unwrap_or (slice_get rounds j) []

-- the end of a round is the beginning of the next one
left_end : (rounds : List (List Action)) (j x : ℕ) → x ≡ length (unwrap_or (slice_get rounds j) []) → left_in rounds (suc j) 0 ≡ left_in rounds j x
left_end [] j x e = refl
left_end (a ∷ rest) zero x e = let m : length a - x ≡ 0 = omega (arith, e) in omega (arith, m)
left_end (a ∷ rest) (suc j) x e = left_end rest j x e

left_lower : (rounds : List (List Action)) (j x : ℕ) → x < length (unwrap_or (slice_get rounds j) []) → left_in rounds j x ≡ suc (left_in rounds j (suc x))
left_lower [] j x low = absurd (omega (arith, low))
left_lower (a ∷ rest) zero x low = omega (arith, low)
left_lower (a ∷ rest) (suc j) x low = left_lower rest j x low

left_none : (rounds : List (List Action)) (x : ℕ) → left_in rounds (length rounds) x ≡ 0
left_none [] x = refl
left_none (a ∷ rest) x = left_none rest x

-- several empty rounds
left_empty : (p : Parts) (j d : ℕ) → ((y : ℕ) → j < y → y ≤ j + d → actions_of p y ≡ []) → remaining p (suc (j + d)) 0 ≡ remaining p (suc j) 0
left_empty p j zero none = ap (λ z. remaining p (suc z) 0) (add-zero j)
left_empty p j (suc d) none =
    ap (λ z. remaining p (suc z) 0) (add-suc j d)
    ∙ (left_end p.rounds (suc (j + d)) 0 (sym (ap length (none (suc (j + d)) (omega arith) (omega arith))))
    ∙ left_empty p j d (λ y low high. none y low (omega arith)))

pub keeps_remaining : KeepsRemaining
keeps_remaining p j x k i (inl e) = ap (λ z. remaining p z i) e.0 ∙ ap (λ z. remaining p j z) e.1
keeps_remaining p j x k i (inr o) =
    ap (λ z. remaining p z i) o.1 ∙ (ap (λ z. remaining p (suc (j + o.0)) z) o.2
    ∙ (left_empty p j o.0 o.5 ∙ left_end p.rounds j x o.3))

pub lowers_remaining : LowersRemaining
lowers_remaining p j x low = left_lower p.rounds j x low

pub ends : Ends
ends p k i (inl low) = record {
  nothing = λ e. absurd (past p.rounds k e low);
  end = λ e. let m : remaining p k i ≡ suc (remaining p k (suc i)) = left_lower p.rounds k i low in absurd (omega (arith, e, m));
}
  where
    past : (rounds : List (List Action)) (k : ℕ) → k ≡ length rounds → i < length (unwrap_or (slice_get rounds k) []) → ⊥
    past [] k e low = omega (arith, low)
    past (a ∷ rest) zero e low = omega (arith, e)
    past (a ∷ rest) (suc k) e low = past rest k (omega (arith, e)) low
ends p k i (inr e) = record { nothing = λ z. ap (λ z. remaining p z i) e ∙ left_none p.rounds i; end = λ z. e }

pub goes_over : GoesOver
goes_over n f w r p k i t at (inl e) =
    tracks_agrees n f w (at_point w r p k i)
    (record {
      given = λ s. refl;
      progress = λ s. same s (cases_eq s r);
      mail = λ q s j. refl;
    }) t
  where
    point : ◌≡◌ {A = Option Progress} (Some (record { round = k; index = i; buf = p.buf })) (Some p)
    point = λ z. Some (record { round = e.0 z; index = e.1 z; buf = p.buf })

    same : (s : ℕ) → (s ≡ r) ⊎ (s ≡ r → ⊥) → put w.progress r (Some (record { round = k; index = i; buf = p.buf })) s ≡ w.progress s
    same s (inl h) =
        ap (put w.progress r (Some (record { round = k; index = i; buf = p.buf }))) h ∙ (put_same w.progress r _ ∙ (point ∙ (sym at ∙ sym (ap w.progress h))))
    same s (inr d) = put_other w.progress r _ s d
goes_over n f w r p k i t at (inr o) =
    subst (λ z. Tracks n f (at_point w r p z i)) (sym o.1)
    (subst (λ z. Tracks n f (at_point w r p (suc (p.round + o.0)) z)) (sym o.2) (skips n f w r p o.0 t at o.3 o.4 o.5))

-- over the end of one more round
pub over_next : (p : Parts) (j x k i : ℕ) → Over p j x k i → i ≡ length (actions_of p k) → k < length p.rounds → Over p j x (k + 1) 0
over_next p j x k i (inl e) done low =
    inr (
      0,
      omega (arith, e.0),
      refl,
      sym e.1
          ∙ (done ∙ ap (λ z. length (actions_of p z)) e.0),
      omega (arith, e.0, low),
      λ y above most. absurd (omega (arith, above, most)),
    )
over_next p j x k i (inr o) done low =
    inr (suc o.0, omega (arith, o.1), refl, o.3, omega (arith, o.1, low), between)
  where
    here : actions_of p (suc (j + o.0)) ≡ []
    here = nil_of (actions_of p (suc (j + o.0))) (sym (ap (λ z. length (actions_of p z)) o.1) ∙ (sym done ∙ o.2))
      where
        nil_of : (xs : List Action) → length xs ≡ 0 → xs ≡ []
        nil_of [] e = refl
        nil_of (a ∷ rest) e = absurd (omega (arith, e))

    between : (y : ℕ) → j < y → y ≤ j + suc o.0 → actions_of p y ≡ []
    between y above most = go (cases_eq y (suc (j + o.0)))
      where
        go : (y ≡ suc (j + o.0)) ⊎ (y ≡ suc (j + o.0) → ⊥) → actions_of p y ≡ []
        go (inl e) = ap (actions_of p) e ∙ here
        go (inr d) = o.5 y above (omega (arith, most, d))

-- at a point nothing remains exactly at the end
pub ends_at : (p : Parts) (k i : ℕ) → IsPoint p k i → (remaining p k i ≡ 0 → k ≡ length p.rounds) × (k ≡ length p.rounds → remaining p k i ≡ 0)
ends_at p k i at = let e : EndsRemaining p k i = ends p k i at in (e.end, e.nothing)
