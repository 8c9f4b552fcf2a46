-- The computed hearing is the one that the proofs of schedules speak of.
use Rattle.std.proofs.Common.{◌≡◌, ℕ, zero, suc, inl, inr, Bool, true, false, ◌||◌, List, [], ◌∷◌, refl, ap, ◌∙◌, eq-eqb, eqb-true}
use Rattle.std.proofs.lemmas.Bool.{false≢true}
use Rattle.std.specs.List.{list_any}
use Rattle.coll_sched.specs.declared.action.Action.{Action}
use Rattle.coll_sched.specs.declared.action.Action.TheVariants.{Send, Copy, Combine, Recv}
use Rattle.coll_sched.specs.Common.{Family, Heard, Receives, actions_at}
use Rattle.coll_plans.specs.Hearings.{hears_from, heard_in, HeardIsHeard}

any_received : (P : ℕ → Bool) (acts : List Action) → list_any (hears_from P) acts ≡ true → (q : ℕ) × Receives acts q × (P q ≡ true)
any_received P [] e = absurd (false≢true e)
any_received P (Send to from ∷ acts) e = let r = any_received P acts e in (r.0, inr r.1, r.2)
any_received P (Copy from into ∷ acts) e = let r = any_received P acts e in (r.0, inr r.1, r.2)
any_received P (Combine op ty left right into ∷ acts) e = let r = any_received P acts e in (r.0, inr r.1, r.2)
any_received P (Recv of into ∷ acts) e = go (λ e. any_received P acts e) (P of) refl e
  where
    go : (list_any (hears_from P) acts ≡ true → (q : ℕ) × Receives acts q × (P q ≡ true)) → (b : Bool) → P of ≡ b
        → (b || list_any (hears_from P) acts) ≡ true → (q : ℕ) × Receives (Recv of into ∷ acts) q × (P q ≡ true)
    go rest true is e = (of, inl refl, is)
    go rest false is e = let r = rest e in (r.0, inr r.1, r.2)

or_first : (a b : Bool) → a ≡ true → (a || b) ≡ true
or_first true b e = refl
or_first false b e = absurd (false≢true e)

or_second : (a b : Bool) → b ≡ true → (a || b) ≡ true
or_second true b e = refl
or_second false b e = e

received_any : (P : ℕ → Bool) (acts : List Action) (q : ℕ) → Receives acts q → P q ≡ true → list_any (hears_from P) acts ≡ true
received_any P [] q r e = absurd r
received_any P (Send to from ∷ acts) q (inl r) e = absurd r
received_any P (Send to from ∷ acts) q (inr r) e = received_any P acts q r e
received_any P (Copy from into ∷ acts) q (inl r) e = absurd r
received_any P (Copy from into ∷ acts) q (inr r) e = received_any P acts q r e
received_any P (Combine op ty left right into ∷ acts) q (inl r) e = absurd r
received_any P (Combine op ty left right into ∷ acts) q (inr r) e = received_any P acts q r e
received_any P (Recv of into ∷ acts) q (inl r) e = or_first (P of) (list_any (hears_from P) acts) (ap P r ∙ e)
received_any P (Recv of into ∷ acts) q (inr r) e = or_second (P of) (list_any (hears_from P) acts) (received_any P acts q r e)

heard_step : (f : Family) (j r p : ℕ) → ((q : ℕ) → heard_in f j q p ≡ true → Heard f j q p) → (b : Bool) → heard_in f j r p ≡ b
    → (b || list_any (hears_from (λ q. heard_in f j q p)) (actions_at f j r)) ≡ true → Heard f (suc j) r p
heard_step f j r p before true is e = inl (before r is)
heard_step f j r p before false is e = let q = any_received (λ q. heard_in f j q p) (actions_at f j r) e in inr (q.0, q.1, before q.0 q.2)

heard_is : (f : Family) (j r p : ℕ) → heard_in f j r p ≡ true → Heard f j r p
heard_is f zero r p e = eqb-true p r e
heard_is f (suc j) r p e = heard_step f j r p (λ q. heard_is f j q p) (heard_in f j r p) refl e

pub is_heard : (f : Family) (j r p : ℕ) → Heard f j r p → heard_in f j r p ≡ true
is_heard f zero r p e = eq-eqb p r e
is_heard f (suc j) r p (inl h) = or_first (heard_in f j r p) (list_any (hears_from (λ q. heard_in f j q p)) (actions_at f j r)) (is_heard f j r p h)
is_heard f (suc j) r p (inr h) =
    or_second (heard_in f j r p) (list_any (hears_from (λ q. heard_in f j q p)) (actions_at f j r))
    (received_any (λ q. heard_in f j q p) (actions_at f j r) h.0 h.1 (is_heard f j h.0 p h.2))

pub heard_is_heard : HeardIsHeard
heard_is_heard f j r p = (heard_is f j r p, is_heard f j r p)
