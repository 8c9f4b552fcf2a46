-- binomial tree, from all to member 0: the rounds are lawful, and in the end member 0 has heard all and holds the combination
use Rattle.std.proofs.Common.{◌≡◌, ℕ, zero, suc, ◌+◌, ◌-◌, ◌*◌, ◌/◌, ◌%◌, ◌^◌, ◌<◌, ◌≤◌, ◌≢◌, ◌⊎◌, inl, inr, true, false, ◌&&◌, min, cond, eqb, ltb}
use Rattle.std.proofs.Common.{List, [], ◌∷◌, length, Some, None, IsTrue, refl, sym, ap, subst, ◌∙◌, arith, eq-eqb, ne_eqb, eqb-true, lt-ltb, le-ltb}
use Rattle.std.proofs.Common.{ltb-true, ltb-false, mod-eq_of_lt, pow-suc, pow_pos, count_by}
use Rattle.std.proofs.lemmas.Bool.{eqb-false, cond-true, cond-false, cases_eq, cases_lt, cases_Bool, and_from, and_parts, and_cases, and_right}
use Rattle.std.proofs.lemmas.Nat.{div-add-mod'}
use Rattle.std.proofs.lemmas.Nat.Gcd.{dvd_of_mod-eq-zero}
use Rattle.std.proofs.Math.Nat.{add-mod_right, mod-add-mod, mul-mod_left, mod-le, mod-mod_of_dvd, mod_self, zero-mod}
use Rattle.std.specs.List.{AllByRecursion, list_any}
use Rattle.coll_kinds.specs.declared.operation.Op.{Op}
use Rattle.coll_kinds.specs.declared.datatype.Datatype.{Datatype}
use Rattle.coll_kinds.specs.Common.{width, allowed}
use Rattle.coll_ops.specs.Combinations.{combined}
use Rattle.coll_ops.specs.Laws.{IsRow}
use Rattle.coll_sched.specs.declared.action.Action.TheVariants.{Send, Combine, Recv}
use Rattle.coll_sched.specs.Common.{read_of, front, behind, IsAmong, AllApart, writes, IsRound, has_peer, Family, actions_at, in_link, out_link}
use Rattle.coll_sched.specs.Common.{len_of, lock_step, Receives, Heard, IsLawful, is_send, is_recv}
use Rattle.coll_sched.proofs.Rounds.{GivenFits}
use Rattle.coll_sched.proofs.Builders.{Has, round_held, round_kept, message_is}
use Rattle.coll_trees.specs.declared.binomial_tree_reduce_step.ReduceStep.{ReduceStep}
use Rattle.coll_trees.specs.declared.binomial_tree_reduce_step.ReduceStep.TheVariants.{SendsToParent, ReceivesFromChild, Rests}
use Rattle.coll_trees.specs.BinomialTreeReduce.{reduce_step, moves, combines, move_at, combine_at, reduce_tree_rounds}
use Rattle.coll_trees.proofs.Columns.{IsColumn, column_of, Costs, free, local_round, exchange}
use Rattle.coll_trees.proofs.Spans.{span, Associates, span_join}

-- remainders at a distance s
mod_up : (r s : ℕ) → 0 < s → r % (s + s) ≡ 0 → (r + s) % (s + s) ≡ s
mod_up r s pos e =
    sym (mod-add-mod r (s + s) s) ∙ (ap (λ x. (x + s) % (s + s)) e ∙ mod-eq_of_lt (omega arith)) ∙ omega arith

mod_down : (r s : ℕ) → r % (s + s) ≡ s → (r - s) % (s + s) ≡ 0
mod_down r s e =
    let d : r / (s + s) * (s + s) + r % (s + s) ≡ r = div-add-mod' r (s + s) in
    let m : r - s ≡ r / (s + s) * (s + s) = omega arith in
    ap (λ x. x % (s + s)) m ∙ mul-mod_left (r / (s + s)) (s + s)

mod_half : (r s : ℕ) → r % (s + s) ≡ 0 → r % s ≡ 0
mod_half r s e =
    sym (mod-mod_of_dvd s {b = s + s} r (dvd_of_mod-eq-zero s {n = s + s} (add-mod_right s s ∙ mod_self s)))
    ∙ (ap (λ x. x % s) e ∙ zero-mod s)

pub data ReduceStepIs (n r s : ℕ) : ReduceStep → Type 0 where
  is_gives : r % (s + s) ≡ s → ReduceStepIs n r s SendsToParent
  is_takes : r % (s + s) ≡ 0 → r + s < n → ReduceStepIs n r s ReceivesFromChild
  is_rests : r % (s + s) ≢ s → (r % (s + s) ≡ 0 → n ≤ r + s) → ReduceStepIs n r s Rests

pub role_is : (n r s : ℕ) → ReduceStepIs n r s (reduce_step n r s)
role_is n r s = go (cases_Bool (eqb (r % (s + s)) s)) (cases_Bool (eqb (r % (s + s)) 0 && ltb (r + s) n))
  where
    far : (eqb (r % (s + s)) 0 ≡ false) ⊎ (ltb (r + s) n ≡ false) → r % (s + s) ≡ 0 → n ≤ r + s
    far (inl h) e = absurd (eqb-false (r % (s + s)) 0 h e)
    far (inr h) e = ltb-false (r + s) n h

    go : (eqb (r % (s + s)) s ≡ true) ⊎ (eqb (r % (s + s)) s ≡ false)
        → ((eqb (r % (s + s)) 0 && ltb (r + s) n) ≡ true) ⊎ ((eqb (r % (s + s)) 0 && ltb (r + s) n) ≡ false) → ReduceStepIs n r s (reduce_step n r s)
    go (inl h) x =
        subst (ReduceStepIs n r s)
        (sym (cond-true (eqb (r % (s + s)) s) SendsToParent (cond (eqb (r % (s + s)) 0 && ltb (r + s) n) ReceivesFromChild Rests) h))
        (is_gives (eqb-true (r % (s + s)) s h))
    go (inr h) (inl x) =
        let parts = and_parts (eqb (r % (s + s)) 0) (ltb (r + s) n) x in
        subst (ReduceStepIs n r s)
        (sym (cond-false (eqb (r % (s + s)) s) SendsToParent (cond (eqb (r % (s + s)) 0 && ltb (r + s) n) ReceivesFromChild Rests) h
        ∙ cond-true (eqb (r % (s + s)) 0 && ltb (r + s) n) ReceivesFromChild Rests x))
        (is_takes (eqb-true (r % (s + s)) 0 parts.0) (ltb-true (r + s) n parts.1))
    go (inr h) (inr x) =
        subst (ReduceStepIs n r s)
        (sym (cond-false (eqb (r % (s + s)) s) SendsToParent (cond (eqb (r % (s + s)) 0 && ltb (r + s) n) ReceivesFromChild Rests) h
        ∙ cond-false (eqb (r % (s + s)) 0 && ltb (r + s) n) ReceivesFromChild Rests x))
        (is_rests (eqb-false (r % (s + s)) s h) (far (and_cases (eqb (r % (s + s)) 0) (ltb (r + s) n) x)))

pub role_gives : (n r s : ℕ) → r % (s + s) ≡ s → reduce_step n r s ≡ SendsToParent
role_gives n r s e = cond-true (eqb (r % (s + s)) s) SendsToParent _ (eq-eqb (r % (s + s)) s e)

role_takes : (n r s : ℕ) → 0 < s → r % (s + s) ≡ 0 → r + s < n → reduce_step n r s ≡ ReceivesFromChild
role_takes n r s pos e h =
    cond-false (eqb (r % (s + s)) s) SendsToParent _ (ne_eqb (r % (s + s)) s (omega arith))
    ∙ cond-true (eqb (r % (s + s)) 0 && ltb (r + s) n) ReceivesFromChild Rests
    (and_from (eqb (r % (s + s)) 0) (ltb (r + s) n) (eq-eqb (r % (s + s)) 0 e) (lt-ltb (r + s) n h))

role_rests : (n r s : ℕ) → 0 < s → r % (s + s) ≡ 0 → n ≤ r + s → reduce_step n r s ≡ Rests
role_rests n r s pos e h =
    cond-false (eqb (r % (s + s)) s) SendsToParent _ (ne_eqb (r % (s + s)) s (omega arith))
    ∙ cond-false (eqb (r % (s + s)) 0 && ltb (r + s) n) ReceivesFromChild Rests (and_right (eqb (r % (s + s)) 0) (ltb (r + s) n) (le-ltb (r + s) n h))

module _ (op : Op) (ty : Datatype) (b : ℕ) (fit : b % width ty ≡ 0) (may : IsTrue (allowed op ty)) where
  moves_round : (r s : ℕ) (o : ReduceStep) → IsRound (b + b) (moves b r s o)
  moves_round r s SendsToParent = record { fits = (omega arith, tt); follows = (tt, tt) }
  moves_round r s ReceivesFromChild = record { fits = (omega arith, tt); follows = (tt, tt) }
  moves_round r s Rests = record { fits = tt; follows = tt }

  combines_round : (o : ReduceStep) → IsRound (b + b) (combines op ty b o)
  combines_round SendsToParent = record { fits = tt; follows = tt }
  combines_round ReceivesFromChild = record { fits = ((omega arith, omega arith, omega arith, refl, refl, may, fit), tt); follows = (tt, tt) }
  combines_round Rests = record { fits = tt; follows = tt }

  moves_among : (n r s : ℕ) (o : ReduceStep) → r < n → ReduceStepIs n r s o → AllByRecursion (IsAmong n) (moves b r s o)
  moves_among n r s SendsToParent low (is_gives e) = (omega arith, tt)
  moves_among n r s ReceivesFromChild low (is_takes e h) = (h, tt)
  moves_among n r s Rests low (is_rests e h) = tt

  combines_among : (n : ℕ) (o : ReduceStep) → AllByRecursion (IsAmong n) (combines op ty b o)
  combines_among n SendsToParent = tt
  combines_among n ReceivesFromChild = (tt, tt)
  combines_among n Rests = tt

  no_in : (p : ℕ) (o : ReduceStep) → in_link p (combines op ty b o) ≡ None
  no_in p SendsToParent = refl
  no_in p ReceivesFromChild = refl
  no_in p Rests = refl

  no_out : (p : ℕ) (o : ReduceStep) → out_link p (combines op ty b o) ≡ None
  no_out p SendsToParent = refl
  no_out p ReceivesFromChild = refl
  no_out p Rests = refl

  one_move : (r s : ℕ) (o : ReduceStep) → (count_by is_send (moves b r s o) ≤ 1) × (count_by is_recv (moves b r s o) ≤ 1)
  one_move r s SendsToParent = (omega arith, omega arith)
  one_move r s ReceivesFromChild = (omega arith, omega arith)
  one_move r s Rests = (omega arith, omega arith)

  no_move : (o : ReduceStep) → (count_by is_send (combines op ty b o) ≤ 1) × (count_by is_recv (combines op ty b o) ≤ 1)
  no_move SendsToParent = (omega arith, omega arith)
  no_move ReceivesFromChild = (omega arith, omega arith)
  no_move Rests = (omega arith, omega arith)

  no_peer : (o : ReduceStep) → list_any has_peer (combines op ty b o) ≡ false
  no_peer SendsToParent = refl
  no_peer ReceivesFromChild = refl
  no_peer Rests = refl

  meets : (n r p s : ℕ) (o q : ReduceStep) → r < n → p < n → 0 < s → ReduceStepIs n r s o → ReduceStepIs n p s q
      → len_of (in_link p (moves b r s o)) ≡ len_of (out_link r (moves b p s q))
  meets n r p s o q hr hp pos x y = go x y (cases_eq (r + s) p)
    where
      some_in : r + s ≡ p → in_link p (moves b r s ReceivesFromChild) ≡ Some (behind b)
      some_in e = cond-true (eqb (r + s) p) (Some (behind b)) None (eq-eqb (r + s) p e)

      none_in : (r + s ≡ p → ⊥) → in_link p (moves b r s ReceivesFromChild) ≡ None
      none_in d = cond-false (eqb (r + s) p) (Some (behind b)) None (ne_eqb (r + s) p d)

      some_out : p - s ≡ r → out_link r (moves b p s SendsToParent) ≡ Some (front b)
      some_out e = cond-true (eqb (p - s) r) (Some (front b)) None (eq-eqb (p - s) r e)

      none_out : (p - s ≡ r → ⊥) → out_link r (moves b p s SendsToParent) ≡ None
      none_out d = cond-false (eqb (p - s) r) (Some (front b)) None (ne_eqb (p - s) r d)

      -- who Gives to r makes r take
      back : p % (s + s) ≡ s → p - s ≡ r → (r % (s + s) ≡ 0) × (r + s ≡ p)
      back e k = (ap (λ x. x % (s + s)) (sym k) ∙ mod_down p s e, (let l : p % (s + s) ≤ p = mod-le p (s + s) in omega arith))

      up : r % (s + s) ≡ 0 → r + s ≡ p → p % (s + s) ≡ s
      up e k = ap (λ x. x % (s + s)) (sym k) ∙ mod_up r s pos e

      go : {o q : ReduceStep} → ReduceStepIs n r s o → ReduceStepIs n p s q → (r + s ≡ p) ⊎ (r + s ≡ p → ⊥)
          → len_of (in_link p (moves b r s o)) ≡ len_of (out_link r (moves b p s q))
      go (is_takes e h) (is_gives f) (inl k) = ap len_of (some_in k) ∙ sym (ap len_of (some_out (omega arith)))
      go (is_takes e h) (is_gives f) (inr d) = ap len_of (none_in d) ∙ sym (ap len_of (none_out (λ k. d (back f k).1)))
      go (is_takes e h) (is_takes f g) (inl k) = let u : p % (s + s) ≡ s = up e k in absurd (omega arith)
      go (is_takes e h) (is_takes f g) (inr d) = ap len_of (none_in d)
      go (is_takes e h) (is_rests f g) (inl k) = absurd (f (up e k))
      go (is_takes e h) (is_rests f g) (inr d) = ap len_of (none_in d)
      go (is_gives e) (is_gives f) k = sym (ap len_of (none_out (λ m. let t : r % (s + s) ≡ 0 = (back f m).0 in omega arith)))
      go (is_gives e) (is_takes f g) k = refl
      go (is_gives e) (is_rests f g) k = refl
      go (is_rests e h) (is_gives f) k = sym (ap len_of (none_out (λ m. let t : n ≤ r + s = h (back f m).0 in let u : r + s ≡ p = (back f m).1 in omega arith)))
      go (is_rests e h) (is_takes f g) k = refl
      go (is_rests e h) (is_rests f g) k = refl

  pub move_column : (n s : ℕ) → 0 < s → IsColumn n (b + b) (move_at b n s)
  move_column n s pos = record {
    is_round = λ r low. moves_round r s (reduce_step n r s);
    peers = λ r low. moves_among n r s (reduce_step n r s) low (role_is n r s);
    aligned = λ r p hr hp. meets n r p s (reduce_step n r s) (reduce_step n p s) hr hp pos (role_is n r s) (role_is n p s);
    one_send = λ r low. (one_move r s (reduce_step n r s)).0;
    one_recv = λ r low. (one_move r s (reduce_step n r s)).1;
  }

  pub combine_column : (n s : ℕ) → IsColumn n (b + b) (combine_at op ty b n s)
  combine_column n s = record {
    is_round = λ r low. combines_round (reduce_step n r s);
    peers = λ r low. combines_among n (reduce_step n r s);
    aligned = λ r p hr hp. ap len_of (no_in p (reduce_step n r s)) ∙ sym (ap len_of (no_out r (reduce_step n p s)));
    one_send = λ r low. (no_move (reduce_step n r s)).0;
    one_recv = λ r low. (no_move (reduce_step n r s)).1;
  }

  pub reduce_tree_columns : (n k c : ℕ) → AllByRecursion (IsColumn n (b + b)) (reduce_tree_rounds op ty b n k c)
  reduce_tree_columns n k zero = tt
  reduce_tree_columns n k (suc c) = (move_column n (2 ^ k) (pow_pos k), (combine_column n (2 ^ k), reduce_tree_columns n (suc k) c))

  pub reduce_tree_costs : (n k c : ℕ) → Costs (reduce_tree_rounds op ty b n k c) c
  reduce_tree_costs n k zero = free
  reduce_tree_costs n k (suc c) = exchange (local_round (λ r. no_peer (reduce_step n r (2 ^ k))) (reduce_tree_costs n (suc k) c))

pub length-reduce_tree_rounds : (op : Op) (ty : Datatype) (b n k c : ℕ) → length (reduce_tree_rounds op ty b n k c) ≡ c + c
length-reduce_tree_rounds op ty b n k zero = refl
length-reduce_tree_rounds op ty b n k (suc c) = let e : length (reduce_tree_rounds op ty b n (suc k) c) ≡ c + c =
    length-reduce_tree_rounds op ty b n (suc k) c in omega arith

pub reduce_tree_rounds-moves : (op : Op) (ty : Datatype) (b n k c i : ℕ) → i < c
    → column_of (reduce_tree_rounds op ty b n k c) (i + i) ≡ move_at b n (2 ^ (k + i))
reduce_tree_rounds-moves op ty b n k zero i h = absurd (omega arith)
reduce_tree_rounds-moves op ty b n k (suc c) zero h = ap (λ e. move_at b n (2 ^ e)) (let z : k ≡ k + 0 = omega arith in z)
reduce_tree_rounds-moves op ty b n k (suc c) (suc i) h =
    ap (column_of (reduce_tree_rounds op ty b n k (suc c))) (let e : suc i + suc i ≡ suc (suc (i + i)) = omega arith in e)
    ∙ (reduce_tree_rounds-moves op ty b n (suc k) c i (omega arith) ∙ ap (λ e. move_at b n (2 ^ e)) (let z : suc k + i ≡ k + suc i = omega arith in z))

pub reduce_tree_rounds-combines : (op : Op) (ty : Datatype) (b n k c i : ℕ) → i < c
    → column_of (reduce_tree_rounds op ty b n k c) (suc (i + i)) ≡ combine_at op ty b n (2 ^ (k + i))
reduce_tree_rounds-combines op ty b n k zero i h = absurd (omega arith)
reduce_tree_rounds-combines op ty b n k (suc c) zero h = ap (λ e. combine_at op ty b n (2 ^ e)) (let z : k ≡ k + 0 = omega arith in z)
reduce_tree_rounds-combines op ty b n k (suc c) (suc i) h =
    ap (column_of (reduce_tree_rounds op ty b n k (suc c))) (let e : suc (suc i + suc i) ≡ suc (suc (suc (i + i))) = omega arith in e)
    ∙ (reduce_tree_rounds-combines op ty b n (suc k) c i (omega arith)
    ∙ ap (λ e. combine_at op ty b n (2 ^ e)) (let z : suc k + i ≡ k + suc i = omega arith in z))

-- in any family that begins with these rounds
module _ (f : Family) (op : Op) (ty : Datatype) (b n d : ℕ)
    (moving : (i r : ℕ) → i < d → actions_at f (i + i) r ≡ move_at b n (2 ^ i) r)
    (combining : (i r : ℕ) → i < d → actions_at f (suc (i + i)) r ≡ combine_at op ty b n (2 ^ i) r) where
  -- round 2 i of a member whose step is known, and the round after it
  moved : (i r : ℕ) (o : ReduceStep) → i < d → reduce_step n r (2 ^ i) ≡ o → actions_at f (i + i) r ≡ moves b r (2 ^ i) o
  moved i r o h e = moving i r h ∙ ap (moves b r (2 ^ i)) e

  combines_in : (i r : ℕ) (o : ReduceStep) → i < d → reduce_step n r (2 ^ i) ≡ o → actions_at f (suc (i + i)) r ≡ combines op ty b o
  combines_in i r o h e = combining i r h ∙ ap (combines op ty b) e

  pub fold_hears : (i r p : ℕ) → i ≤ d → r % (2 ^ i) ≡ 0 → r ≤ p → p < n → p < r + 2 ^ i → Heard f (i + i) r p
  fold_hears zero r p h e low top near = omega arith
  fold_hears (suc i) r p h e low top near =
      subst (λ j. Heard f j r p) (let k : suc (suc (i + i)) ≡ suc i + suc i = omega arith in k)
      (inl (go (λ q x y z. fold_hears i q p (omega arith) x y top z) (cases_lt p (r + 2 ^ i))))
    where
      pos : 0 < 2 ^ i
      pos = pow_pos i

      even : r % (2 ^ i + 2 ^ i) ≡ 0
      even = ap (λ m. r % m) (omega (arith, pow-suc 2 i)) ∙ e

      go : ((q : ℕ) → q % (2 ^ i) ≡ 0 → q ≤ p → p < q + 2 ^ i → Heard f (i + i) q p) → (p < r + 2 ^ i) ⊎ (r + 2 ^ i ≤ p)
          → Heard f (i + i) r p ⊎ ((q : ℕ) × Receives (actions_at f (i + i) r) q × Heard f (i + i) q p)
      go more (inl x) = inl (more r (mod_half r (2 ^ i) (ap (λ m. r % m) (omega (arith, pow-suc 2 i)) ∙ e)) low x)
      go more (inr x) = inr (
        r + 2 ^ i,
        subst (λ xs. Receives xs (r + 2 ^ i))
            (sym (moved i r ReceivesFromChild (omega arith)
            (role_takes n r (2 ^ i) (pow_pos i) (ap (λ m. r % m) (omega (arith, pow-suc 2 i)) ∙ e) (omega arith)))) (inl refl),
        more (r + 2 ^ i) (add-mod_right r (2 ^ i) ∙ mod_half r (2 ^ i) (ap (λ m. r % m) (omega (arith, pow-suc 2 i)) ∙ e)) x (omega (arith, pow-suc 2 i)),
      )

  module _ (lawful : IsLawful n f) (assoc : Associates op ty) (given : ℕ → List ℕ) (laid : GivenFits n f given)
      (rows : (p : ℕ) → p < n → IsRow ty (given p) × (length (given p) ≡ b)) (room : (r : ℕ) → r < n → b + b ≤ (f r).size)
      (start : (r : ℕ) → r < n → read_of (lock_step f given 0 r) (front b) ≡ given r) where
    -- after i steps
    pub fold_holds : (i r : ℕ) → i ≤ d → r < n → r % (2 ^ i) ≡ 0 → read_of (lock_step f given (i + i) r) (front b) ≡ span op ty given r (min (2 ^ i) (n - r))
    fold_holds zero r h low e = start r low ∙ ap (span op ty given r) (let k : 1 ≡ min (2 ^ 0) (n - r) = omega arith in k)
    fold_holds (suc i) r h low e =
        ap (λ j. read_of (lock_step f given j r) (front b)) (let k : suc i + suc i ≡ suc (suc (i + i)) = omega arith in k)
        ∙ go (pow_pos i) (ap (λ m. r % m) (omega (arith, pow-suc 2 i)) ∙ e) (λ q x y. fold_holds i q (omega arith) x y) (cases_lt (r + 2 ^ i) n)
      where
        go : 0 < 2 ^ i → r % (2 ^ i + 2 ^ i) ≡ 0
            → ((q : ℕ) → q < n → q % (2 ^ i) ≡ 0 → read_of (lock_step f given (i + i) q) (front b) ≡ span op ty given q (min (2 ^ i) (n - q)))
            → (r + 2 ^ i < n) ⊎ (n ≤ r + 2 ^ i) → read_of (lock_step f given (suc (suc (i + i))) r) (front b) ≡ span op ty given r (min (2 ^ suc i) (n - r))
        go pos even before (inl x) =
            let q : ℕ = r + 2 ^ i in
            let acts = moved i r ReceivesFromChild (omega arith) (role_takes n r (2 ^ i) pos even x) in
            let theirs = moved i (r + 2 ^ i) SendsToParent (omega arith) (role_gives n (r + 2 ^ i) (2 ^ i) (mod_up r (2 ^ i) pos even)) in
            let joins = combines_in i r ReceivesFromChild (omega arith) (role_takes n r (2 ^ i) pos even x) in
            round_held n f lawful given laid (suc (i + i)) r (Combine op ty (front b) (behind b) (front b)) (front b) low
            (subst (λ xs. Has xs (Combine op ty (front b) (behind b) (front b))) (sym joins) (inl refl)) refl
            ∙ (ap (λ l. combined op ty l (read_of (lock_step f given (suc (i + i)) r) (behind b)))
            (round_kept n f lawful given laid (i + i) r (front b) low (let z : b + b ≤ (f r).size = room r low in omega arith)
            (subst (λ xs. AllByRecursion (λ a. AllApart (writes a) (front b ∷ [])) xs) (sym acts) ((((λ k u v w z. omega arith), tt), tt), tt))
            ∙ (before r low (mod_half r (2 ^ i) even) ∙ ap (span op ty given r) (let k : min (2 ^ i) (n - r) ≡ 2 ^ i = omega arith in k)))
            ∙ (ap (combined op ty (span op ty given r (2 ^ i)))
            (round_held n f lawful given laid (i + i) r (Recv (r + 2 ^ i) (behind b)) (behind b) low
            (subst (λ xs. Has xs (Recv (r + 2 ^ i) (behind b))) (sym acts) (inl refl)) refl
            ∙ (message_is n f lawful given laid (i + i) r (r + 2 ^ i) (front b) x
            (subst (λ xs. Has xs (Send r (front b))) (sym theirs) (inl (ap (λ m. Send m (front b)) (let k : r + 2 ^ i - 2 ^ i ≡ r = omega arith in k))))
            ∙ before (r + 2 ^ i) x (add-mod_right r (2 ^ i) ∙ mod_half r (2 ^ i) even)))
            ∙ span_join op ty b n assoc given rows r (2 ^ i) (min (2 ^ i) (n - (r + 2 ^ i))) (min (2 ^ suc i) (n - r)) pos
            (omega arith) (omega (arith, pow-suc 2 i)) (omega arith)))
        go pos even before (inr x) =
            let acts = moved i r Rests (omega arith) (role_rests n r (2 ^ i) pos even x) in
            let joins = combines_in i r Rests (omega arith) (role_rests n r (2 ^ i) pos even x) in
            round_kept n f lawful given laid (suc (i + i)) r (front b) low (let z : b + b ≤ (f r).size = room r low in omega arith)
            (subst (λ xs. AllByRecursion (λ a. AllApart (writes a) (front b ∷ [])) xs) (sym joins) tt)
            ∙ (round_kept n f lawful given laid (i + i) r (front b) low (let z : b + b ≤ (f r).size = room r low in omega arith)
            (subst (λ xs. AllByRecursion (λ a. AllApart (writes a) (front b ∷ [])) xs) (sym acts) tt)
            ∙ (before r low (mod_half r (2 ^ i) even)
            ∙ ap (span op ty given r) (let k : min (2 ^ i) (n - r) ≡ min (2 ^ suc i) (n - r) = omega (arith, pow-suc 2 i) in k)))
