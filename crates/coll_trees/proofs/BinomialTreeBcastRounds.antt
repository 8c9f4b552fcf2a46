-- binomial tree, from the root to all: the rounds are lawful, and in the end all have heard the root and hold its block
use Rattle.std.proofs.Common.{◌≡◌, ℕ, zero, suc, ◌+◌, ◌-◌, ◌^◌, ◌<◌, ◌≤◌, ◌⊎◌, inl, inr, cond, eqb, ltb, List, [], ◌∷◌, length, Some, None, refl, sym}
use Rattle.std.proofs.Common.{ap, subst, ◌∙◌, arith, eq-eqb, ne_eqb, lt-ltb, le-ltb, pow-suc, count_by}
use Rattle.std.proofs.lemmas.Bool.{cases_eq, cases_lt, cond-true, cond-false}
use Rattle.std.specs.List.{AllByRecursion}
use Rattle.coll_sched.specs.declared.action.Action.TheVariants.{Send, Recv}
use Rattle.coll_sched.specs.Common.{read_of, front, IsAmong, AllApart, writes, IsRound, Family, actions_at, in_link, out_link, len_of, lock_step}
use Rattle.coll_sched.specs.Common.{Receives, Heard, IsLawful, is_send, is_recv}
use Rattle.coll_sched.proofs.Rounds.{GivenFits}
use Rattle.coll_sched.proofs.Builders.{Has, round_held, round_kept, message_is}
use Rattle.coll_trees.specs.declared.binomial_tree_bcast_step.BcastStep.{BcastStep}
use Rattle.coll_trees.specs.declared.binomial_tree_bcast_step.BcastStep.TheVariants.{SendsToChild, ReceivesFromParent, Idles}
use Rattle.coll_trees.specs.BinomialTreeBcast.{from_root, member_at, bcast_step, hop, bcast_tree_at, bcast_tree_rounds}
use Rattle.coll_trees.proofs.Columns.{IsColumn, column_of, Costs, free, exchange}
use Rattle.coll_trees.proofs.RootNumbers.{Turned, straight, around, from_root_is, number_low, member_at_low, member_at-from_root, from_root-member_at}

-- a member's step with its facts
pub data BcastStepIs (n v s : ℕ) : BcastStep → Type 0 where
  is_passes : v < s → v + s < n → BcastStepIs n v s SendsToChild
  is_gets : s ≤ v → v < s + s → BcastStepIs n v s ReceivesFromParent
  is_idles : (v < s → n ≤ v + s) → (s ≤ v → s + s ≤ v) → BcastStepIs n v s Idles

pub way_passes : (n v s : ℕ) → v < s → v + s < n → bcast_step n v s ≡ SendsToChild
way_passes n v s h k =
    cond-true (ltb v s) (cond (ltb (v + s) n) SendsToChild Idles) _ (lt-ltb v s h) ∙ cond-true (ltb (v + s) n) SendsToChild Idles (lt-ltb (v + s) n k)

pub way_stops : (n v s : ℕ) → v < s → n ≤ v + s → bcast_step n v s ≡ Idles
way_stops n v s h k =
    cond-true (ltb v s) (cond (ltb (v + s) n) SendsToChild Idles) _ (lt-ltb v s h) ∙ cond-false (ltb (v + s) n) SendsToChild Idles (le-ltb (v + s) n k)

pub way_gets : (n v s : ℕ) → s ≤ v → v < s + s → bcast_step n v s ≡ ReceivesFromParent
way_gets n v s h k =
    cond-false (ltb v s) (cond (ltb (v + s) n) SendsToChild Idles) _ (le-ltb v s h) ∙ cond-true (ltb v (s + s)) ReceivesFromParent Idles (lt-ltb v (s + s) k)

pub way_far : (n v s : ℕ) → s ≤ v → s + s ≤ v → bcast_step n v s ≡ Idles
way_far n v s h k =
    cond-false (ltb v s) (cond (ltb (v + s) n) SendsToChild Idles) _ (le-ltb v s h) ∙ cond-false (ltb v (s + s)) ReceivesFromParent Idles (le-ltb v (s + s) k)

pub way_is : (n v s : ℕ) → BcastStepIs n v s (bcast_step n v s)
way_is n v s = go (cases_lt v s) (cases_lt (v + s) n) (cases_lt v (s + s))
  where
    go : (v < s) ⊎ (s ≤ v) → (v + s < n) ⊎ (n ≤ v + s) → (v < s + s) ⊎ (s + s ≤ v) → BcastStepIs n v s (bcast_step n v s)
    go (inl h) (inl k) x = subst (BcastStepIs n v s) (sym (way_passes n v s h k)) (is_passes h k)
    go (inl h) (inr k) x = subst (BcastStepIs n v s) (sym (way_stops n v s h k)) (is_idles (λ t. k) (λ t. omega arith))
    go (inr h) y (inl k) = subst (BcastStepIs n v s) (sym (way_gets n v s h k)) (is_gets h k)
    go (inr h) y (inr k) = subst (BcastStepIs n v s) (sym (way_far n v s h k)) (is_idles (λ t. omega arith) (λ t. k))

module _ (b n root : ℕ) (low : root < n) (size : ℕ) (room : b ≤ size) where
  hop_round : (v s : ℕ) (w : BcastStep) → IsRound size (hop b n root v s w)
  hop_round v s SendsToChild = record { fits = (omega arith, tt); follows = (tt, tt) }
  hop_round v s ReceivesFromParent = record { fits = (omega arith, tt); follows = (tt, tt) }
  hop_round v s Idles = record { fits = tt; follows = tt }

  hop_among : (v s : ℕ) (w : BcastStep) → v < n → BcastStepIs n v s w → AllByRecursion (IsAmong n) (hop b n root v s w)
  hop_among v s SendsToChild in1 (is_passes h k) = (member_at_low n root (v + s) low k, tt)
  hop_among v s ReceivesFromParent in1 (is_gets h k) = (member_at_low n root (v - s) low (omega arith), tt)
  hop_among v s Idles in1 (is_idles h k) = tt

  one_send_of : (v s : ℕ) (w : BcastStep) → count_by is_send (hop b n root v s w) ≤ 1
  one_send_of v s SendsToChild = omega arith
  one_send_of v s ReceivesFromParent = omega arith
  one_send_of v s Idles = omega arith

  one_recv_of : (v s : ℕ) (w : BcastStep) → count_by is_recv (hop b n root v s w) ≤ 1
  one_recv_of v s SendsToChild = omega arith
  one_recv_of v s ReceivesFromParent = omega arith
  one_recv_of v s Idles = omega arith

  -- r gets of p exactly where p passes to r
  hop_meets : (r p s : ℕ) (o q : BcastStep) → r < n → p < n → BcastStepIs n (from_root n root r) s o
      → BcastStepIs n (from_root n root p) s q
      → len_of (in_link p (hop b n root (from_root n root r) s o)) ≡ len_of (out_link r (hop b n root (from_root n root p) s q))
  hop_meets r p s o q hr hp x y = go x y (cases_eq (member_at n root (v - s)) p) (cases_eq (member_at n root (u + s)) r)
    where
      v : ℕ
      v = from_root n root r

      u : ℕ
      u = from_root n root p

      some_in : member_at n root (from_root n root r - s) ≡ p → in_link p (hop b n root (from_root n root r) s ReceivesFromParent) ≡ Some (front b)
      some_in e = cond-true (eqb (member_at n root (from_root n root r - s)) p) (Some (front b)) None (eq-eqb _ p e)

      none_in : (member_at n root (from_root n root r - s) ≡ p → ⊥) → in_link p (hop b n root (from_root n root r) s ReceivesFromParent) ≡ None
      none_in d = cond-false (eqb (member_at n root (from_root n root r - s)) p) (Some (front b)) None (ne_eqb _ p d)

      some_out : member_at n root (from_root n root p + s) ≡ r → out_link r (hop b n root (from_root n root p) s SendsToChild) ≡ Some (front b)
      some_out e = cond-true (eqb (member_at n root (from_root n root p + s)) r) (Some (front b)) None (eq-eqb _ r e)

      none_out : (member_at n root (from_root n root p + s) ≡ r → ⊥) → out_link r (hop b n root (from_root n root p) s SendsToChild) ≡ None
      none_out d = cond-false (eqb (member_at n root (from_root n root p + s)) r) (Some (front b)) None (ne_eqb _ r d)

      in_r : from_root n root r < n
      in_r = number_low n root r (from_root n root r) hr (from_root_is n root r low)

      in_p : from_root n root p < n
      in_p = number_low n root p (from_root n root p) hp (from_root_is n root p low)

      -- of whom r gets: its number
      below : s ≤ from_root n root r → member_at n root (from_root n root r - s) ≡ p → from_root n root p ≡ from_root n root r - s
      below h e = ap (from_root n root) (sym e) ∙ from_root-member_at n root (from_root n root r - s) low (let k : from_root n root r < n = in_r in omega arith)

      above : from_root n root p + s < n → member_at n root (from_root n root p + s) ≡ r → from_root n root r ≡ from_root n root p + s
      above h e = ap (from_root n root) (sym e) ∙ from_root-member_at n root (from_root n root p + s) low h

      up : s ≤ from_root n root r → member_at n root (from_root n root r - s) ≡ p → member_at n root (from_root n root p + s) ≡ r
      up h e = let k : from_root n root p ≡ from_root n root r - s =
          below h e in ap (member_at n root) (let z : from_root n root p + s ≡ from_root n root r = omega arith in z) ∙ member_at-from_root n root r low hr

      down : from_root n root p + s < n → member_at n root (from_root n root p + s) ≡ r → member_at n root (from_root n root r - s) ≡ p
      down h e = let k : from_root n root r ≡ from_root n root p + s =
          above h e in ap (member_at n root) (let z : from_root n root r - s ≡ from_root n root p = omega arith in z) ∙ member_at-from_root n root p low hp

      go : {o q : BcastStep} → BcastStepIs n (from_root n root r) s o → BcastStepIs n (from_root n root p) s q
          → (member_at n root (from_root n root r - s) ≡ p) ⊎ (member_at n root (from_root n root r - s) ≡ p → ⊥)
          → (member_at n root (from_root n root p + s) ≡ r) ⊎ (member_at n root (from_root n root p + s) ≡ r → ⊥)
          → len_of (in_link p (hop b n root (from_root n root r) s o)) ≡ len_of (out_link r (hop b n root (from_root n root p) s q))
      go (is_gets a c) (is_passes d e) (inl x) y = ap len_of (some_in x) ∙ sym (ap len_of (some_out (up a x)))
      go (is_gets a c) (is_passes d e) (inr x) y = ap len_of (none_in x) ∙ sym (ap len_of (none_out (λ z. x (down e z))))
      go (is_gets a c) (is_gets d e) (inl x) y = let k : from_root n root p ≡ from_root n root r - s = below a x in absurd (omega arith)
      go (is_gets a c) (is_gets d e) (inr x) y = ap len_of (none_in x)
      go (is_gets a c) (is_idles d e) (inl x) y =
          let k : from_root n root p ≡ from_root n root r - s = below a x in
          let m : from_root n root r < n = in_r in
          let z : n ≤ from_root n root p + s = d (omega arith) in absurd (omega arith)
      go (is_gets a c) (is_idles d e) (inr x) y = ap len_of (none_in x)
      go (is_passes a c) (is_passes d e) x (inl y) = let k : from_root n root r ≡ from_root n root p + s = above e y in absurd (omega arith)
      go (is_passes a c) (is_passes d e) x (inr y) = sym (ap len_of (none_out y))
      go (is_passes a c) (is_gets d e) x y = refl
      go (is_passes a c) (is_idles d e) x y = refl
      go (is_idles a c) (is_passes d e) x (inl y) =
          let k : from_root n root r ≡ from_root n root p + s = above e y in
          let z : s + s ≤ from_root n root r = c (omega arith) in absurd (omega arith)
      go (is_idles a c) (is_passes d e) x (inr y) = sym (ap len_of (none_out y))
      go (is_idles a c) (is_gets d e) x y = refl
      go (is_idles a c) (is_idles d e) x y = refl

  pub bcast_tree_column : (s : ℕ) → IsColumn n size (bcast_tree_at b n root s)
  bcast_tree_column s = record {
    is_round = λ r hr. hop_round (from_root n root r) s (bcast_step n (from_root n root r) s);
    peers = λ r hr. hop_among (from_root n root r) s (bcast_step n (from_root n root r) s)
        (number_low n root r (from_root n root r) hr (from_root_is n root r low)) (way_is n (from_root n root r) s);
    aligned = λ r p hr hp. hop_meets r p s (bcast_step n (from_root n root r) s) (bcast_step n (from_root n root p) s) hr hp
        (way_is n (from_root n root r) s) (way_is n (from_root n root p) s);
    one_send = λ r hr. one_send_of (from_root n root r) s (bcast_step n (from_root n root r) s);
    one_recv = λ r hr. one_recv_of (from_root n root r) s (bcast_step n (from_root n root r) s);
  }

  pub bcast_tree_columns : (k c : ℕ) → AllByRecursion (IsColumn n size) (bcast_tree_rounds b n root k c)
  bcast_tree_columns k zero = tt
  bcast_tree_columns k (suc c) = (bcast_tree_column (2 ^ k), bcast_tree_columns (suc k) c)

pub length-bcast_tree_rounds : (b n root k c : ℕ) → length (bcast_tree_rounds b n root k c) ≡ c
length-bcast_tree_rounds b n root k zero = refl
length-bcast_tree_rounds b n root k (suc c) = ap suc (length-bcast_tree_rounds b n root (suc k) c)

pub bcast_tree_rounds-at : (b n root k c i : ℕ) → i < c → column_of (bcast_tree_rounds b n root k c) i ≡ bcast_tree_at b n root (2 ^ (k + i))
bcast_tree_rounds-at b n root k zero i h = absurd (omega arith)
bcast_tree_rounds-at b n root k (suc c) zero h = ap (λ e. bcast_tree_at b n root (2 ^ e)) (let z : k ≡ k + 0 = omega arith in z)
bcast_tree_rounds-at b n root k (suc c) (suc i) h =
    bcast_tree_rounds-at b n root (suc k) c i (omega arith) ∙ ap (λ e. bcast_tree_at b n root (2 ^ e)) (let z : suc k + i ≡ k + suc i = omega arith in z)

pub bcast_tree_costs : (b n root k c : ℕ) → Costs (bcast_tree_rounds b n root k c) c
bcast_tree_costs b n root k zero = free
bcast_tree_costs b n root k (suc c) = exchange (bcast_tree_costs b n root (suc k) c)

-- the root has number 0, and nobody else
pub number_of_root : (n root r : ℕ) → root < n → r < n → from_root n root r ≡ 0 → r ≡ root
number_of_root n root r low hr e = go (from_root_is n root r low)
  where
    go : Turned n root r (from_root n root r) → r ≡ root
    go (straight a b) = omega arith
    go (around a b) = absurd (omega arith)

-- in any family that has these rounds from round `base` on
module _ (f : Family) (b n root base d : ℕ) (low : root < n) (rounds : (i r : ℕ) → i < d → actions_at f (base + i) r ≡ bcast_tree_at b n root (2 ^ i) r) where
  -- the round of a member whose step is known
  acts : (i r : ℕ) (w : BcastStep) → i < d → bcast_step n (from_root n root r) (2 ^ i) ≡ w
      → actions_at f (base + i) r ≡ hop b n root (from_root n root r) (2 ^ i) w
  acts i r w h e = rounds i r h ∙ ap (hop b n root (from_root n root r) (2 ^ i)) e

  -- who passes to r at distance 2 ^ i, its number, and that it is a member
  giver_number : (i r : ℕ) → r < n → 2 ^ i ≤ from_root n root r → from_root n root (member_at n root (from_root n root r - 2 ^ i)) ≡ from_root n root r - 2 ^ i
  giver_number i r hr h =
      let v : from_root n root r < n = number_low n root r (from_root n root r) hr (from_root_is n root r low) in
      from_root-member_at n root (from_root n root r - 2 ^ i) low (omega arith)

  giver_low : (i r : ℕ) → r < n → 2 ^ i ≤ from_root n root r → member_at n root (from_root n root r - 2 ^ i) < n
  giver_low i r hr h =
      let v : from_root n root r < n = number_low n root r (from_root n root r) hr (from_root_is n root r low) in
      member_at_low n root (from_root n root r - 2 ^ i) low (omega arith)

  gets_of : (i r : ℕ) → i < d → 2 ^ i ≤ from_root n root r → from_root n root r < 2 ^ suc i
      → actions_at f (base + i) r ≡ Recv (member_at n root (from_root n root r - 2 ^ i)) (front b) ∷ []
  gets_of i r h x y = acts i r ReceivesFromParent h (way_gets n (from_root n root r) (2 ^ i) x (omega (arith, pow-suc 2 i)))

  passes_to : (i r : ℕ) → i < d → r < n → 2 ^ i ≤ from_root n root r → from_root n root r < 2 ^ suc i
      → actions_at f (base + i) (member_at n root (from_root n root r - 2 ^ i)) ≡ Send r (front b) ∷ []
  passes_to i r h hr x y =
      let v : from_root n root r < n = number_low n root r (from_root n root r) hr (from_root_is n root r low) in
      let u : from_root n root (member_at n root (from_root n root r - 2 ^ i)) ≡ from_root n root r - 2 ^ i = giver_number i r hr x in
      acts i (member_at n root (from_root n root r - 2 ^ i)) SendsToChild h
      (way_passes n (from_root n root (member_at n root (from_root n root r - 2 ^ i))) (2 ^ i) (omega (arith, pow-suc 2 i)) (omega arith))
      ∙ ap (λ m. Send m (front b) ∷ [])
      (ap (member_at n root) (let z : from_root n root (member_at n root (from_root n root r - 2 ^ i)) + 2 ^ i ≡ from_root n root r = omega arith in z)
      ∙ member_at-from_root n root r low hr)

  -- who has the block already writes nothing
  quiet : (i r : ℕ) → i < d → from_root n root r < 2 ^ i → AllByRecursion (λ a. AllApart (writes a) (front b ∷ [])) (actions_at f (base + i) r)
  quiet i r h x = go (cases_lt (from_root n root r + 2 ^ i) n)
    where
      go : (from_root n root r + 2 ^ i < n) ⊎ (n ≤ from_root n root r + 2 ^ i)
          → AllByRecursion (λ a. AllApart (writes a) (front b ∷ [])) (actions_at f (base + i) r)
      go (inl k) =
          subst (AllByRecursion (λ a. AllApart (writes a) (front b ∷ [])))
          (sym (acts i r SendsToChild h (way_passes n (from_root n root r) (2 ^ i) x k))) (tt, tt)
      go (inr k) = subst (AllByRecursion (λ a. AllApart (writes a) (front b ∷ []))) (sym (acts i r Idles h (way_stops n (from_root n root r) (2 ^ i) x k))) tt

  -- after i steps the first 2 ^ i have heard what the root had heard
  pub bcast_tree_hears : (q : ℕ) → Heard f base root q → (i r : ℕ) → i ≤ d → r < n → from_root n root r < 2 ^ i → Heard f (base + i) r q
  bcast_tree_hears q e zero r h hr near =
      subst (λ j. Heard f j r q) (let z : base ≡ base + 0 = omega arith in z)
      (subst (λ x. Heard f base x q) (sym (number_of_root n root r low hr (omega arith))) e)
  bcast_tree_hears q e (suc i) r h hr near =
      subst (λ j. Heard f j r q) (let z : suc (base + i) ≡ base + suc i = omega arith in z)
      (go (λ p x y. bcast_tree_hears q e i p (omega arith) x y) (cases_lt (from_root n root r) (2 ^ i)))
    where
      go : ((p : ℕ) → p < n → from_root n root p < 2 ^ i → Heard f (base + i) p q)
          → (from_root n root r < 2 ^ i) ⊎ (2 ^ i ≤ from_root n root r) → Heard f (suc (base + i)) r q
      go more (inl x) = inl (more r hr x)
      go more (inr x) = inr (
        member_at n root (from_root n root r - 2 ^ i),
        subst (λ xs. Receives xs (member_at n root (from_root n root r - 2 ^ i))) (sym (gets_of i r (omega arith) x near)) (inl refl),
        more (member_at n root (from_root n root r - 2 ^ i)) (giver_low i r hr x)
            (let u : from_root n root (member_at n root (from_root n root r - 2 ^ i)) ≡ from_root n root r - 2 ^ i =
            giver_number i r hr x in omega (arith, pow-suc 2 i)),
      )

  module _ (lawful : IsLawful n f) (given : ℕ → List ℕ) (laid : GivenFits n f given) (room : (r : ℕ) → r < n → b ≤ (f r).size) where
    -- after i steps the first 2 ^ i hold what the root held
    pub bcast_tree_holds : (x : List ℕ) → read_of (lock_step f given base root) (front b) ≡ x → (i r : ℕ) → i ≤ d → r < n
        → from_root n root r < 2 ^ i → read_of (lock_step f given (base + i) r) (front b) ≡ x
    bcast_tree_holds x e zero r h hr near =
        ap (λ j. read_of (lock_step f given j r) (front b)) (let z : base + 0 ≡ base = omega arith in z)
        ∙ (ap (λ q. read_of (lock_step f given base q) (front b)) (number_of_root n root r low hr (omega arith)) ∙ e)
    bcast_tree_holds x e (suc i) r h hr near =
        ap (λ j. read_of (lock_step f given j r) (front b)) (let z : base + suc i ≡ suc (base + i) = omega arith in z)
        ∙ go (λ p a c. bcast_tree_holds x e i p (omega arith) a c) (cases_lt (from_root n root r) (2 ^ i))
      where
        go : ((p : ℕ) → p < n → from_root n root p < 2 ^ i → read_of (lock_step f given (base + i) p) (front b) ≡ x)
            → (from_root n root r < 2 ^ i) ⊎ (2 ^ i ≤ from_root n root r) → read_of (lock_step f given (suc (base + i)) r) (front b) ≡ x
        go more (inl y) =
            round_kept n f lawful given laid (base + i) r (front b) hr (let z : b ≤ (f r).size = room r hr in omega arith) (quiet i r (omega arith) y)
            ∙ more r hr y
        go more (inr y) =
            round_held n f lawful given laid (base + i) r (Recv (member_at n root (from_root n root r - 2 ^ i)) (front b)) (front b) hr
            (subst (λ xs. Has xs (Recv (member_at n root (from_root n root r - 2 ^ i)) (front b))) (sym (gets_of i r (omega arith) y near)) (inl refl)) refl
            ∙ (message_is n f lawful given laid (base + i) r (member_at n root (from_root n root r - 2 ^ i)) (front b) (giver_low i r hr y)
            (subst (λ xs. Has xs (Send r (front b))) (sym (passes_to i r (omega arith) hr y near)) (inl refl))
            ∙ more (member_at n root (from_root n root r - 2 ^ i)) (giver_low i r hr y)
            (let u : from_root n root (member_at n root (from_root n root r - 2 ^ i)) ≡ from_root n root r - 2 ^ i =
            giver_number i r hr y in omega (arith, pow-suc 2 i)))
