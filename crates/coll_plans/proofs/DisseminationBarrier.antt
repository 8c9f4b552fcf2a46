-- dissemination: the barrier's family is lawful and narrow, and each member hears all
use Rattle.std.proofs.Common.{◌≡◌, ℕ, zero, suc, ◌+◌, ◌-◌, ◌%◌, ◌^◌, ◌<◌, ◌≤◌, ◌⊎◌, inl, inr, true, eqb, ltb, length, Some, None, refl, sym, ap}
use Rattle.std.proofs.Common.{subst, ◌∙◌, arith, eq-eqb, ne_eqb, mod-lt, pow-suc, ltb-true, unwrap_or}
use Rattle.std.proofs.lemmas.Bool.{cases_eq, cases_lt, cond-true, cond-false, and_parts}
use Rattle.std.specs.List.{AllByRecursion}
use Rattle.coll_kinds.specs.declared.signature.Signature.{Signature}
use Rattle.coll_kinds.specs.declared.kind.Kind.TheVariants.{Barrier}
use Rattle.coll_kinds.specs.declared.operation.Op.TheVariants.{Sum}
use Rattle.coll_kinds.specs.Common.{block_len, row_len, given_by, got_by, needs_of, needs}
use Rattle.coll_ops.specs.Values.{value_by}
use Rattle.coll_sched.specs.Common.{IsRound, actions_at, out_link, in_link, len_of, Receives, Heard, nothing}
use Rattle.coll_trees.specs.Columns.{Column}
use Rattle.coll_trees.specs.Depths.{depth}
use Rattle.coll_trees.specs.Trees.{IsNarrowFor}
use Rattle.coll_trees.proofs.Columns.{IsColumn, column_of, round-column, length-rounds, lawful_family, narrow_family, few_exchanges, Costs, free, exchange}
use Rattle.coll_trees.proofs.Depths.{depth_reaches, depth_short}
use Rattle.coll_plans.specs.DisseminationBarrier.{barrier_round, barrier_rounds, barrier_family}
use Rattle.coll_plans.proofs.Around.{Wraps, stays, wraps, wraps_at, meets, meets_back}

-- no distance of a step reaches n
pub step_short : (n j : ℕ) → j < depth n → 2 ^ j < n
unfolding depth
step_short n j h = depth_short 6 0 n j (omega arith) h

meeting_round : (n s r : ℕ) → IsRound 0 (barrier_round n s r)
meeting_round n s r = record {
  fits = (omega arith, (omega arith, tt));
  follows = (
    (
      record { in_order = omega arith; other_peer = tt; read_later = tt; read_before = (((λ k a b c d. omega arith), tt), tt); both_written = tt },
      tt,
    ),
    (tt, tt),
  );
}

meeting_aligned : (n r p s : ℕ) → r < n → p < n → s < n → len_of (in_link p (barrier_round n s r)) ≡ len_of (out_link r (barrier_round n s p))
meeting_aligned n r p s hr hp hs = go (cases_eq ((r + (n - s)) % n) p) (cases_eq ((p + s) % n) r)
  where
    go : ((r + (n - s)) % n ≡ p) ⊎ ((r + (n - s)) % n ≡ p → ⊥) → ((p + s) % n ≡ r) ⊎ ((p + s) % n ≡ r → ⊥)
        → len_of (in_link p (barrier_round n s r)) ≡ len_of (out_link r (barrier_round n s p))
    go (inl x) (inl y) =
        ap len_of (cond-true (eqb ((r + (n - s)) % n) p) (Some nothing) None (eq-eqb _ _ x))
        ∙ sym (ap len_of (cond-true (eqb ((p + s) % n) r) (Some nothing) None (eq-eqb _ _ y)))
    go (inl x) (inr y) = absurd (y (meets n r p s hr hp hs x))
    go (inr x) (inl y) = absurd (x (meets_back n r p s hr hp hs y))
    go (inr x) (inr y) =
        ap len_of (cond-false (eqb ((r + (n - s)) % n) p) (Some nothing) None (ne_eqb _ _ x))
        ∙ sym (ap len_of (cond-false (eqb ((p + s) % n) r) (Some nothing) None (ne_eqb _ _ y)))

meeting_column : (n s : ℕ) → 0 < n → s < n → IsColumn n 0 (barrier_round n s)
meeting_column n s pos h = record {
  is_round = λ r low. meeting_round n s r;
  peers = λ r low. (mod-lt _ pos, (mod-lt _ pos, tt));
  aligned = λ r p hr hp. meeting_aligned n r p s hr hp h;
  one_send = λ r low. omega arith;
  one_recv = λ r low. omega arith;
}

meetings_columns : (n k c : ℕ) → 0 < n → ((j : ℕ) → k ≤ j → j < k + c → 2 ^ j < n) → AllByRecursion (IsColumn n 0) (barrier_rounds n k c)
meetings_columns n k zero pos h = tt
meetings_columns n k (suc c) pos h =
    (meeting_column n (2 ^ k) pos (h k (omega arith) (omega arith)), meetings_columns n (suc k) c pos (λ j x y. h j (omega arith) (omega arith)))

pub all_columns : (n : ℕ) → 0 < n → AllByRecursion (IsColumn n 0) (barrier_rounds n 0 (depth n))
all_columns n pos = meetings_columns n 0 (depth n) pos (λ j x y. step_short n j (omega arith))

length-barrier_rounds : (n k c : ℕ) → length (barrier_rounds n k c) ≡ c
length-barrier_rounds n k zero = refl
length-barrier_rounds n k (suc c) = ap suc (length-barrier_rounds n (suc k) c)

barrier_rounds-at : (n k c i : ℕ) → i < c → column_of (barrier_rounds n k c) i ≡ barrier_round n (2 ^ (k + i))
barrier_rounds-at n k zero i h = absurd (omega arith)
barrier_rounds-at n k (suc c) zero h = ap (λ e. barrier_round n (2 ^ e)) (let z : k ≡ k + 0 = omega arith in z)
barrier_rounds-at n k (suc c) (suc i) h =
    barrier_rounds-at n (suc k) c i (omega arith) ∙ ap (λ e. barrier_round n (2 ^ e)) (let z : suc k + i ≡ k + suc i = omega arith in z)

meetings_costs : (n k c : ℕ) → Costs (barrier_rounds n k c) c
meetings_costs n k zero = free
meetings_costs n k (suc c) = exchange (meetings_costs n (suc k) c)

rounds_are : (sig : Signature) (n j r : ℕ) → j < depth n → actions_at (barrier_family sig n) j r ≡ barrier_round n (2 ^ j) r
rounds_are sig n j r h =
    round-column (barrier_rounds n 0 (depth n)) j r
    ∙ ap (λ (c : Column). c r) (barrier_rounds-at n 0 (depth n) j h ∙ ap (λ e. barrier_round n (2 ^ e)) (let z : 0 + j ≡ j = omega arith in z))

-- p stands i before r
abbrev Before : ℕ → ℕ → ℕ → ℕ → Type 0
Before n r p i = (p + i ≡ r) ⊎ (p + i ≡ r + n)

hears_within : (sig : Signature) (n j r p i : ℕ) → j ≤ depth n → r < n → p < n → i < 2 ^ j → Before n r p i → Heard (barrier_family sig n) j r p
hears_within sig n zero r p i low hr hp hi (inl e) = omega arith
hears_within sig n zero r p i low hr hp hi (inr e) = absurd (omega arith)
hears_within sig n (suc j) r p i low hr hp hi b = go short (λ q k l m c. hears_within sig n j q p k (omega arith) l hp m c) (cases_lt i (2 ^ j))
  where
    short : 2 ^ j < n
    short = step_short n j (omega arith)

    from : Receives (actions_at (barrier_family sig n) j r) ((r + (n - 2 ^ j)) % n)
    from = subst (λ xs. Receives xs ((r + (n - 2 ^ j)) % n)) (sym (rounds_are sig n j r (omega arith))) (inr (inl refl))

    near : 2 ^ j < n → Wraps n (r + (n - 2 ^ j)) → Before n r p i → 2 ^ j ≤ i → Before n ((r + (n - 2 ^ j)) % n) p (i - 2 ^ j)
    near d (stays l x) (inl e) h = absurd (omega arith)
    near d (stays l x) (inr e) h = inl (omega arith)
    near d (wraps l x) (inl e) h = inl (omega arith)
    near d (wraps l x) (inr e) h = inr (omega arith)

    go : 2 ^ j < n → ((q k : ℕ) → q < n → k < 2 ^ j → Before n q p k → Heard (barrier_family sig n) j q p)
        → (i < 2 ^ j) ⊎ (2 ^ j ≤ i) → Heard (barrier_family sig n) (suc j) r p
    go d more (inl h) = inl (more r i hr h b)
    go d more (inr h) = inr (
      (r + (n - 2 ^ j)) % n,
      from,
      more ((r + (n - 2 ^ j)) % n) (i - 2 ^ j) (mod-lt _ (omega arith)) (omega (arith, pow-suc 2 j)) (near d (wraps_at n (r + (n - 2 ^ j)) (omega arith)) b h),
    )

hears_all : (sig : Signature) (n r p : ℕ) → 0 < n → n ≤ 64 → r < n → p < n → Heard (barrier_family sig n) (depth n) r p
hears_all sig n r p pos top hr hp = go (depth_reaches n top) (cases_lt r p)
  where
    go : n ≤ 2 ^ depth n → (r < p) ⊎ (p ≤ r) → Heard (barrier_family sig n) (depth n) r p
    go enough (inl h) = hears_within sig n (depth n) r p (r + n - p) (omega arith) hr hp (omega arith) (inr (omega arith))
    go enough (inr h) = hears_within sig n (depth n) r p (r - p) (omega arith) hr hp (omega arith) (inl (omega arith))

-- the family of the barrier serves each barrier
pub barrier_serves : (sig : Signature) (n : ℕ) → sig.kind ≡ Barrier → 0 < n → n ≤ 64 → IsNarrowFor sig n (barrier_family sig n) (depth n)
barrier_serves sig n kind pos top = record {
  serves = record {
    lawful = lawful_family n 0 (λ r. nothing) (λ r. nothing) (barrier_rounds n 0 (depth n)) (λ r h. omega arith) (λ r h. omega arith) (all_columns n pos);
    takes_given = λ r h. sym (ap (λ k. given_by k sig.root n r (block_len sig) (row_len sig)) kind);
    gives_got = λ r h. sym (ap (λ k. got_by k sig.root n r (block_len sig) (row_len sig)) kind);
    has_value = λ given are bytes r h. sym (ap (λ k. value_by k (unwrap_or sig.op Sum) sig.ty (block_len sig) sig.root given r) kind);
    hears = λ r p h need. hears r p h need;
  };
  narrow = narrow_family n 0 (λ r. nothing) (λ r. nothing) (barrier_rounds n 0 (depth n)) (all_columns n pos);
  few = few_exchanges n 0 (λ r. nothing) (λ r. nothing) (barrier_rounds n 0 (depth n)) (depth n) (meetings_costs n 0 (depth n));
}
  where
    hears : (r p : ℕ) → r < n → needs sig n r p ≡ true → Heard (barrier_family sig n) (length (barrier_family sig n r).rounds) r p
    hears r p h need =
        subst (λ j. Heard (barrier_family sig n) j r p) (sym (length-rounds (barrier_rounds n 0 (depth n)) r ∙ length-barrier_rounds n 0 (depth n)))
        (hears_all sig n r p pos top h (ltb-true p n (and_parts (ltb p n) (needs_of sig.kind sig.root r p) need).0))
