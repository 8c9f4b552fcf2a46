-- Bruck's exchange: the rounds are lawful, and after i steps each member holds the blocks of the 2 ^ i members from itself
-- on, and has heard them
use Rattle.std.proofs.Common.{◌≡◌, ℕ, zero, suc, ◌+◌, ◌-◌, ◌*◌, ◌%◌, ◌^◌, ◌<◌, ◌≤◌, ◌⊎◌, inl, inr, eqb, List, [], ◌∷◌, length, Some, None, refl, sym}
use Rattle.std.proofs.Common.{ap, subst, ◌∙◌, arith, eq-eqb, ne_eqb, mod-eq_of_lt, mod-lt, pow-suc}
use Rattle.std.proofs.lemmas.Bool.{cases_eq, cases_lt, cond-true, cond-false}
use Rattle.std.specs.List.{AllByRecursion}
use Rattle.coll_sched.specs.Common.{Inside, read_of, AllApart, writes, IsRound, Family, actions_at, in_link, out_link, len_of, lock_step, messages}
use Rattle.coll_sched.specs.Common.{Receives, Heard, IsLawful}
use Rattle.coll_sched.specs.declared.action.Action.TheVariants.{Send, Copy, Recv}
use Rattle.coll_sched.proofs.Buffers.{flip}
use Rattle.coll_sched.proofs.Rounds.{GivenFits}
use Rattle.coll_sched.proofs.Builders.{Has, round_held, round_kept, message_is}
use Rattle.coll_trees.proofs.Columns.{IsColumn, column_of, Costs, free, local_round, exchange}
use Rattle.coll_plans.specs.BruckAllgather.{blocks_at, block_count, bruck_step, bruck_rounds, rotation}
use Rattle.coll_plans.proofs.LocalRounds.{local_column, is_local_column}
use Rattle.coll_plans.proofs.Around.{meets, meets_back, two_steps, past_last, not_past}
use Rattle.coll_plans.proofs.BruckRegions.{blocks_inside, blocks_apart, same_block}

-- m blocks go to p, and m come of q after the s that the member holds
step_round : (b n s m p q : ℕ) → m ≤ s → s + m ≤ n → IsRound (n * b + n * b) (Send p (blocks_at b 0 m) ∷ Recv q (blocks_at b s m) ∷ [])
step_round b n s m p q short room = record {
  fits = (blocks_inside b n 0 m (omega arith), (blocks_inside b n s m (omega arith), tt));
  follows = (
    (
      record {
        in_order = omega arith;
        other_peer = tt;
        read_later = tt;
        read_before = ((flip (blocks_at b 0 m) (blocks_at b s m) (blocks_apart b 0 m s m (omega arith)), tt), tt);
        both_written = tt;
      },
      tt,
    ),
    (tt, tt),
  );
}

-- r receives of the member that sends to it
step_aligned : (b n s r p : ℕ) → r < n → p < n → s < n → len_of (in_link p (bruck_step b n s r)) ≡ len_of (out_link r (bruck_step b n s p))
step_aligned b n s r p hr hp hs = go (cases_eq ((r + s) % n) p) (cases_eq ((p + (n - s)) % n) r)
  where
    go : ((r + s) % n ≡ p) ⊎ ((r + s) % n ≡ p → ⊥) → ((p + (n - s)) % n ≡ r) ⊎ ((p + (n - s)) % n ≡ r → ⊥)
        → len_of (in_link p (bruck_step b n s r)) ≡ len_of (out_link r (bruck_step b n s p))
    go (inl x) (inl y) =
        ap len_of (cond-true (eqb ((r + s) % n) p) (Some (blocks_at b s (block_count n s))) None (eq-eqb _ _ x))
        ∙ sym (ap len_of (cond-true (eqb ((p + (n - s)) % n) r) (Some (blocks_at b 0 (block_count n s))) None (eq-eqb _ _ y)))
    go (inl x) (inr y) = absurd (y (meets_back n p r s hp hr hs x))
    go (inr x) (inl y) = absurd (x (meets n p r s hp hr hs y))
    go (inr x) (inr y) =
        ap len_of (cond-false (eqb ((r + s) % n) p) (Some (blocks_at b s (block_count n s))) None (ne_eqb _ _ x))
        ∙ sym (ap len_of (cond-false (eqb ((p + (n - s)) % n) r) (Some (blocks_at b 0 (block_count n s))) None (ne_eqb _ _ y)))

step_column : (b n s : ℕ) → s < n → IsColumn n (n * b + n * b) (bruck_step b n s)
step_column b n s h = record {
  is_round = λ r low. step_round b n s (block_count n s) ((r + (n - s)) % n) ((r + s) % n) (omega arith) (omega arith);
  peers = λ r low. (mod-lt _ (omega arith), (mod-lt _ (omega arith), tt));
  aligned = λ r p hr hp. step_aligned b n s r p hr hp h;
  one_send = λ r low. omega arith;
  one_recv = λ r low. omega arith;
}

rotation_round : (b n r : ℕ) → r < n → IsRound (n * b + n * b) (rotation b n r)
rotation_round b n r h = record {
  fits = (
    (blocks_inside b n 0 (n - r) (omega arith), blocks_inside b n (n + r) (n - r) (omega arith), refl),
    ((blocks_inside b n (n - r) r (omega arith), blocks_inside b n n r (omega arith), refl), tt),
  );
  follows = (
    (
      record {
        in_order = omega arith;
        other_peer = tt;
        read_later = ((flip (blocks_at b (n - r) r) (blocks_at b (n + r) (n - r)) (blocks_apart b (n - r) r (n + r) (n - r) (omega arith)), tt), tt);
        read_before = ((flip (blocks_at b 0 (n - r)) (blocks_at b n r) (blocks_apart b 0 (n - r) n r (omega arith)), tt), tt);
        both_written = ((flip (blocks_at b n r) (blocks_at b (n + r) (n - r)) (blocks_apart b n r (n + r) (n - r) (omega arith)), tt), tt);
      },
      tt,
    ),
    (tt, tt),
  );
}

rotation_column : (b n : ℕ) → IsColumn n (n * b + n * b) (rotation b n)
rotation_column b n = local_column n (n * b + n * b) (rotation b n) (λ r. (tt, (tt, tt))) (λ r low. rotation_round b n r low)

pub bruck_columns : (b n k c : ℕ) → ((j : ℕ) → k ≤ j → j < k + c → 2 ^ j < n) → AllByRecursion (IsColumn n (n * b + n * b)) (bruck_rounds b n k c)
bruck_columns b n k zero h = (rotation_column b n, tt)
bruck_columns b n k (suc c) h =
    (step_column b n (2 ^ k) (h k (omega arith) (omega arith)), bruck_columns b n (suc k) c (λ j x y. h j (omega arith) (omega arith)))

pub length-bruck_rounds : (b n k c : ℕ) → length (bruck_rounds b n k c) ≡ suc c
length-bruck_rounds b n k zero = refl
length-bruck_rounds b n k (suc c) = ap suc (length-bruck_rounds b n (suc k) c)

pub bruck_rounds-at : (b n k c i : ℕ) → i < c → column_of (bruck_rounds b n k c) i ≡ bruck_step b n (2 ^ (k + i))
bruck_rounds-at b n k zero i h = absurd (omega arith)
bruck_rounds-at b n k (suc c) zero h = ap (λ e. bruck_step b n (2 ^ e)) (let z : k ≡ k + 0 = omega arith in z)
bruck_rounds-at b n k (suc c) (suc i) h =
    bruck_rounds-at b n (suc k) c i (omega arith) ∙ ap (λ e. bruck_step b n (2 ^ e)) (let z : suc k + i ≡ k + suc i = omega arith in z)

pub bruck_rounds-last : (b n k c : ℕ) → column_of (bruck_rounds b n k c) c ≡ rotation b n
bruck_rounds-last b n k zero = refl
bruck_rounds-last b n k (suc c) = bruck_rounds-last b n (suc k) c

pub bruck_costs : (b n k c : ℕ) → Costs (bruck_rounds b n k c) c
bruck_costs b n k zero = local_round (is_local_column (rotation b n) (λ r. (tt, (tt, tt)))) free
bruck_costs b n k (suc c) = exchange (bruck_costs b n (suc k) c)

-- a family whose step i is at distance 2 ^ i
module _ (f : Family) (b n d : ℕ) (short : (i : ℕ) → i < d → 2 ^ i < n) (moved : (i r : ℕ) → i < d → actions_at f i r ≡ bruck_step b n (2 ^ i) r) where
  receives : (i r : ℕ) → i < d → Has (actions_at f i r) (Recv ((r + 2 ^ i) % n) (blocks_at b (2 ^ i) (block_count n (2 ^ i))))
  receives i r h = subst (λ xs. Has xs (Recv ((r + 2 ^ i) % n) (blocks_at b (2 ^ i) (block_count n (2 ^ i))))) (sym (moved i r h)) (inr (inl refl))

  sends : (i r q : ℕ) → i < d → r < n → q < n → (r + 2 ^ i) % n ≡ q → Has (actions_at f i q) (Send r (blocks_at b 0 (block_count n (2 ^ i))))
  sends i r q h hr hq e =
      subst (λ p. Has (actions_at f i q) (Send p (blocks_at b 0 (block_count n (2 ^ i))))) (meets_back n q r (2 ^ i) hq hr (short i h) e)
      (subst (λ xs. Has xs (Send ((q + (n - 2 ^ i)) % n) (blocks_at b 0 (block_count n (2 ^ i))))) (sym (moved i q h)) (inl refl))

  -- after i steps a member has heard the 2 ^ i members from itself on
  pub bruck_heard : (i r m : ℕ) → i ≤ d → r < n → m < 2 ^ i → m < n → Heard f i r ((r + m) % n)
  bruck_heard zero r m h hr near low = ap (λ x. x % n) (let z : r + m ≡ r = omega arith in z) ∙ mod-eq_of_lt hr
  bruck_heard (suc i) r m h hr near low = go (λ q l hq x y. bruck_heard i q l (omega arith) hq x y) (cases_lt m (2 ^ i))
    where
      from : Receives (actions_at f i r) ((r + 2 ^ i) % n)
      from = subst (λ xs. Receives xs ((r + 2 ^ i) % n)) (sym (moved i r (omega arith))) (inr (inl refl))

      go : ((q l : ℕ) → q < n → l < 2 ^ i → l < n → Heard f i q ((q + l) % n)) → (m < 2 ^ i) ⊎ (2 ^ i ≤ m) → Heard f (suc i) r ((r + m) % n)
      go more (inl x) = inl (more r m hr x low)
      go more (inr x) = inr (
        (r + 2 ^ i) % n,
        from,
        subst (Heard f i ((r + 2 ^ i) % n)) (two_steps n r (2 ^ i) m x)
            (more ((r + 2 ^ i) % n) (m - 2 ^ i) (mod-lt _ (omega arith)) (omega (arith, pow-suc 2 i)) (omega arith)),
      )

  module _ (lawful : IsLawful n f) (given : ℕ → List ℕ) (laid : GivenFits n f given) (room : (r : ℕ) → r < n → (f r).size ≡ n * b + n * b)
      (start : (r : ℕ) → r < n → read_of (lock_step f given 0 r) (blocks_at b 0 1) ≡ given r) where
    -- a step leaves the blocks that are there
    step_kept : (i r m : ℕ) → i < d → r < n → m < 2 ^ i → m < n
        → read_of (lock_step f given (suc i) r) (blocks_at b m 1) ≡ read_of (lock_step f given i r) (blocks_at b m 1)
    step_kept i r m h hr near low =
        round_kept n f lawful given laid i r (blocks_at b m 1) hr
        (subst (λ size. Inside size (blocks_at b m 1)) (sym (room r hr)) (blocks_inside b n m 1 (omega arith)))
        (subst (AllByRecursion (λ a. AllApart (writes a) (blocks_at b m 1 ∷ []))) (sym (moved i r h)) (
          tt,
          (
            (
              (flip (blocks_at b m 1) (blocks_at b (2 ^ i) (block_count n (2 ^ i))) (blocks_apart b m 1 (2 ^ i) (block_count n (2 ^ i)) (omega arith)), tt),
              tt,
            ),
            tt,
          ),
        ))

    -- and brings those of the member 2 ^ i further
    step_brings : (i r q m : ℕ) → i < d → r < n → q < n → (r + 2 ^ i) % n ≡ q → m < block_count n (2 ^ i)
        → read_of (lock_step f given (suc i) r) (blocks_at b (2 ^ i + m) 1) ≡ read_of (lock_step f given i q) (blocks_at b (0 + m) 1)
    step_brings i r q m h hr hq e near =
        same_block b (2 ^ i) 0 (block_count n (2 ^ i)) m (lock_step f given (suc i) r) (lock_step f given i q) near
        (round_held n f lawful given laid i r (Recv ((r + 2 ^ i) % n) (blocks_at b (2 ^ i) (block_count n (2 ^ i))))
        (blocks_at b (2 ^ i) (block_count n (2 ^ i))) hr (receives i r h) refl
        ∙ (ap (messages f given i r) e
        ∙ message_is n f lawful given laid i r q (blocks_at b 0 (block_count n (2 ^ i))) hq (sends i r q h hr hq e)))

    -- after i steps block m is that of the member m further
    pub bruck_held : (i r m : ℕ) → i ≤ d → r < n → m < 2 ^ i → m < n → read_of (lock_step f given i r) (blocks_at b m 1) ≡ given ((r + m) % n)
    bruck_held zero r m h hr near low =
        ap (λ k. read_of (lock_step f given 0 r) (blocks_at b k 1)) (let z : m ≡ 0 = omega arith in z)
        ∙ (start r hr ∙ ap given (sym (ap (λ x. x % n) (let z : r + m ≡ r = omega arith in z) ∙ mod-eq_of_lt hr)))
    bruck_held (suc i) r m h hr near low = go (λ q l hq x y. bruck_held i q l (omega arith) hq x y) (cases_lt m (2 ^ i))
      where
        go : ((q l : ℕ) → q < n → l < 2 ^ i → l < n → read_of (lock_step f given i q) (blocks_at b l 1) ≡ given ((q + l) % n))
            → (m < 2 ^ i) ⊎ (2 ^ i ≤ m) → read_of (lock_step f given (suc i) r) (blocks_at b m 1) ≡ given ((r + m) % n)
        go more (inl x) = step_kept i r m (omega arith) hr x low ∙ more r m hr x low
        go more (inr x) =
            let q_in : (r + 2 ^ i) % n < n = mod-lt _ (omega arith) in
            let near_i : m - 2 ^ i < 2 ^ i = omega (arith, pow-suc 2 i) in
            ap (λ k. read_of (lock_step f given (suc i) r) (blocks_at b k 1)) (let z : m ≡ 2 ^ i + (m - 2 ^ i) = omega arith in z)
            ∙ (step_brings i r ((r + 2 ^ i) % n) (m - 2 ^ i) (omega arith) hr q_in refl (omega arith)
            ∙ (ap (λ k. read_of (lock_step f given i ((r + 2 ^ i) % n)) (blocks_at b k 1)) (let z : 0 + (m - 2 ^ i) ≡ m - 2 ^ i = omega arith in z)
            ∙ (more ((r + 2 ^ i) % n) (m - 2 ^ i) q_in near_i (omega arith)
            ∙ ap given (two_steps n r (2 ^ i) m x))))

    -- and the copies put the block of each member in its place
    module _ (rotated : (r : ℕ) → actions_at f d r ≡ rotation b n r) (enough : n ≤ 2 ^ d) where
      turned : (r m k : ℕ) → r < n → m < n → (r + m) % n ≡ k → read_of (lock_step f given d r) (blocks_at b m 1) ≡ given k
      turned r m k hr hm e = bruck_held d r m (omega arith) hr (omega arith) hm ∙ ap given e

      pub bruck_placed : (r k : ℕ) → r < n → k < n → read_of (lock_step f given (suc d) r) (blocks_at b (n + k) 1) ≡ given k
      bruck_placed r k hr hk = go (cases_lt k r)
        where
          go : (k < r) ⊎ (r ≤ k) → read_of (lock_step f given (suc d) r) (blocks_at b (n + k) 1) ≡ given k
          go (inl x) =
              same_block b n (n - r) r k (lock_step f given (suc d) r) (lock_step f given d r) x
              (round_held n f lawful given laid d r (Copy (blocks_at b (n - r) r) (blocks_at b n r)) (blocks_at b n r) hr
              (subst (λ xs. Has xs (Copy (blocks_at b (n - r) r) (blocks_at b n r))) (sym (rotated r)) (inr (inl refl))) refl)
              ∙ turned r (n - r + k) k hr (omega arith) (past_last n r k hr hk)
          go (inr x) =
              ap (λ j. read_of (lock_step f given (suc d) r) (blocks_at b j 1)) (let z : n + k ≡ n + r + (k - r) = omega arith in z)
              ∙ (same_block b (n + r) 0 (n - r) (k - r) (lock_step f given (suc d) r) (lock_step f given d r) (omega arith)
              (round_held n f lawful given laid d r (Copy (blocks_at b 0 (n - r)) (blocks_at b (n + r) (n - r))) (blocks_at b (n + r) (n - r)) hr
              (subst (λ xs. Has xs (Copy (blocks_at b 0 (n - r)) (blocks_at b (n + r) (n - r)))) (sym (rotated r)) (inl refl)) refl)
              ∙ (ap (λ j. read_of (lock_step f given d r) (blocks_at b j 1)) (let z : 0 + (k - r) ≡ k - r = omega arith in z)
              ∙ turned r (k - r) k hr (omega arith) (not_past n r k x hk)))
