-- the last hop, from member 0 to the root
use Rattle.std.proofs.Common.{◌≡◌, ℕ, ◌<◌, ◌≤◌, ◌≢◌, ◌⊎◌, inl, inr, eqb, List, [], ◌∷◌, Some, None, refl, sym, ap, subst, ◌∙◌, arith, eq-eqb, ne_eqb, count_by}
use Rattle.std.proofs.lemmas.Bool.{cases_eq, cond-true, cond-false}
use Rattle.std.specs.List.{AllByRecursion}
use Rattle.coll_sched.specs.declared.action.Action.{Action}
use Rattle.coll_sched.specs.declared.action.Action.TheVariants.{Send, Recv}
use Rattle.coll_sched.specs.Common.{IsAmong, IsRound, in_link, out_link, len_of, is_send, is_recv, front}
use Rattle.coll_trees.specs.BinomialTreeReduce.{last_hop}
use Rattle.coll_trees.proofs.Columns.{IsColumn}

pub hop-none : (b root r : ℕ) → root ≡ 0 → last_hop b root r ≡ []
hop-none b root r e = cond-true (eqb root 0) [] _ (eq-eqb root 0 e)

pub hop-sends : (b root r : ℕ) → root ≢ 0 → r ≡ 0 → last_hop b root r ≡ Send root (front b) ∷ []
hop-sends b root r d e = cond-false (eqb root 0) [] _ (ne_eqb root 0 d) ∙ cond-true (eqb r 0) (Send root (front b) ∷ []) _ (eq-eqb r 0 e)

pub hop-gets : (b root r : ℕ) → root ≢ 0 → r ≢ 0 → r ≡ root → last_hop b root r ≡ Recv 0 (front b) ∷ []
hop-gets b root r d n e =
    cond-false (eqb root 0) [] _ (ne_eqb root 0 d)
    ∙ (cond-false (eqb r 0) (Send root (front b) ∷ []) _ (ne_eqb r 0 n) ∙ cond-true (eqb r root) (Recv 0 (front b) ∷ []) [] (eq-eqb r root e))

hop-rests : (b root r : ℕ) → root ≢ 0 → r ≢ 0 → r ≢ root → last_hop b root r ≡ []
hop-rests b root r d n e =
    cond-false (eqb root 0) [] _ (ne_eqb root 0 d)
    ∙ (cond-false (eqb r 0) (Send root (front b) ∷ []) _ (ne_eqb r 0 n) ∙ cond-false (eqb r root) (Recv 0 (front b) ∷ []) [] (ne_eqb r root e))

-- what a member does in it, with the facts
data HopIs (b root r : ℕ) : List Action → Type 0 where
  none_hops : root ≡ 0 → HopIs b root r []
  first_sends : root ≢ 0 → r ≡ 0 → HopIs b root r (Send root (front b) ∷ [])
  root_gets : root ≢ 0 → r ≢ 0 → r ≡ root → HopIs b root r (Recv 0 (front b) ∷ [])
  other_rests : root ≢ 0 → r ≢ 0 → r ≢ root → HopIs b root r []

hop_is : (b root r : ℕ) → HopIs b root r (last_hop b root r)
hop_is b root r = go (cases_eq root 0) (cases_eq r 0) (cases_eq r root)
  where
    go : (root ≡ 0) ⊎ (root ≡ 0 → ⊥) → (r ≡ 0) ⊎ (r ≡ 0 → ⊥) → (r ≡ root) ⊎ (r ≡ root → ⊥) → HopIs b root r (last_hop b root r)
    go (inl x) y z = subst (HopIs b root r) (sym (hop-none b root r x)) (none_hops x)
    go (inr x) (inl y) z = subst (HopIs b root r) (sym (hop-sends b root r x y)) (first_sends x y)
    go (inr x) (inr y) (inl z) = subst (HopIs b root r) (sym (hop-gets b root r x y z)) (root_gets x y z)
    go (inr x) (inr y) (inr z) = subst (HopIs b root r) (sym (hop-rests b root r x y z)) (other_rests x y z)

module _ (b n root : ℕ) (low : root < n) (size : ℕ) (room : b ≤ size) where
  round_is : {r : ℕ} {xs : List Action} → HopIs b root r xs → IsRound size xs
  round_is (none_hops x) = record { fits = tt; follows = tt }
  round_is (first_sends x y) = record { fits = (omega arith, tt); follows = (tt, tt) }
  round_is (root_gets x y z) = record { fits = (omega arith, tt); follows = (tt, tt) }
  round_is (other_rests x y z) = record { fits = tt; follows = tt }

  among : {r : ℕ} {xs : List Action} → HopIs b root r xs → AllByRecursion (IsAmong n) xs
  among (none_hops x) = tt
  among (first_sends x y) = (low, tt)
  among (root_gets x y z) = (omega arith, tt)
  among (other_rests x y z) = tt

  sends_once : {r : ℕ} {xs : List Action} → HopIs b root r xs → (count_by is_send xs ≤ 1) × (count_by is_recv xs ≤ 1)
  sends_once (none_hops x) = (omega arith, omega arith)
  sends_once (first_sends x y) = (omega arith, omega arith)
  sends_once (root_gets x y z) = (omega arith, omega arith)
  sends_once (other_rests x y z) = (omega arith, omega arith)

  meets : (r p : ℕ) {xs ys : List Action} → HopIs b root r xs → HopIs b root p ys → len_of (in_link p xs) ≡ len_of (out_link r ys)
  meets r p (none_hops x) (none_hops u) = refl
  meets r p (none_hops x) (first_sends u v) = absurd (u x)
  meets r p (none_hops x) (root_gets u v w) = absurd (u x)
  meets r p (none_hops x) (other_rests u v w) = refl
  meets r p (first_sends x y) (none_hops u) = absurd (x u)
  meets r p (first_sends x y) (first_sends u v) = sym (ap len_of (cond-false (eqb root r) (Some (front b)) None (ne_eqb root r (λ e. x (e ∙ y)))))
  meets r p (first_sends x y) (root_gets u v w) = refl
  meets r p (first_sends x y) (other_rests u v w) = refl
  meets r p (root_gets x y z) (none_hops u) = absurd (x u)
  meets r p (root_gets x y z) (first_sends u v) =
      ap len_of (cond-true (eqb 0 p) (Some (front b)) None (eq-eqb 0 p (sym v)))
      ∙ sym (ap len_of (cond-true (eqb root r) (Some (front b)) None (eq-eqb root r (sym z))))
  meets r p (root_gets x y z) (root_gets u v w) = ap len_of (cond-false (eqb 0 p) (Some (front b)) None (ne_eqb 0 p (λ e. v (sym e))))
  meets r p (root_gets x y z) (other_rests u v w) = ap len_of (cond-false (eqb 0 p) (Some (front b)) None (ne_eqb 0 p (λ e. v (sym e))))
  meets r p (other_rests x y z) (none_hops u) = refl
  meets r p (other_rests x y z) (first_sends u v) = sym (ap len_of (cond-false (eqb root r) (Some (front b)) None (ne_eqb root r (λ e. z (sym e)))))
  meets r p (other_rests x y z) (root_gets u v w) = refl
  meets r p (other_rests x y z) (other_rests u v w) = refl

  pub hop_column : IsColumn n size (last_hop b root)
  hop_column = record {
    is_round = λ r h. round_is (hop_is b root r);
    peers = λ r h. among (hop_is b root r);
    aligned = λ r p hr hp. meets r p (hop_is b root r) (hop_is b root p);
    one_send = λ r h. (sends_once (hop_is b root r)).0;
    one_recv = λ r h. (sends_once (hop_is b root r)).1;
  }
