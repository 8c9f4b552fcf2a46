-- the rounds of a chain are lawful, and in the end each member has heard the root and holds all its segments
use Rattle.std.proofs.Common.{◌≡◌, ℕ, zero, suc, ◌+◌, ◌-◌, ◌<◌, ◌≤◌, ◌⊎◌, inl, inr, ◌&&◌, Bool, true, false, cond, eqb, ltb, leb, List, [], ◌∷◌}
use Rattle.std.proofs.Common.{length, Some, None, Option, refl, sym, ap, subst, ◌∙◌, arith, eq-eqb, eqb-true, lt-ltb, le-leb, ltb-true, leb-true}
use Rattle.std.proofs.Common.{count_by}
use Rattle.std.proofs.lemmas.Bool.{cases_eq, cases_lt, and_from, and_parts}
use Rattle.std.specs.List.{AllByRecursion}
use Rattle.coll_sched.specs.declared.region.Region.{Region}
use Rattle.coll_sched.specs.declared.action.Action.{Action}
use Rattle.coll_sched.specs.declared.action.Action.TheVariants.{Send, Recv}
use Rattle.coll_sched.specs.Common.{Inside, Apart, read_of, IsAmong, AllApart, writes, IsRound, Family, actions_at, in_link, out_link, len_of}
use Rattle.coll_sched.specs.Common.{lock_step, Heard, IsLawful, is_send, is_recv}
use Rattle.coll_sched.proofs.Rounds.{GivenFits}
use Rattle.coll_sched.proofs.Builders.{Has, receives_has, round_held, round_kept, message_is}
use Rattle.coll_trees.specs.BinomialTreeBcast.{from_root, member_at}
use Rattle.coll_trees.proofs.Columns.{IsColumn, column_of, Costs, free, exchange}
use Rattle.coll_trees.proofs.RootNumbers.{from_root_is, number_low, member_at_low, member_at-from_root, from_root-member_at}
use Rattle.coll_plans.specs.ChainBcast.{segment_count, segment, is_passing, relay_of, relay, relaying}
use Rattle.coll_plans.proofs.ChainSegments.{segment_inside, segments_apart}

-- when a member passes on a segment
pub record Passes (n s j v : ℕ) : Type 0 where
  pub has_next : v + 1 < n
  pub came : v ≤ j
  pub some_left : j < v + s

passes_of : (n s j v : ℕ) → is_passing n s j v ≡ true → Passes n s j v
passes_of n s j v h =
    let a = and_parts (ltb (v + 1) n) (leb v j && ltb j (v + s)) h in
    let c = and_parts (leb v j) (ltb j (v + s)) a.1 in
    record { has_next = ltb-true (v + 1) n a.0; came = leb-true v j c.0; some_left = ltb-true j (v + s) c.1 }

is_passing-from : (n s j v : ℕ) → v + 1 < n → v ≤ j → j < v + s → is_passing n s j v ≡ true
is_passing-from n s j v x y z =
    and_from (ltb (v + 1) n) (leb v j && ltb j (v + s)) (lt-ltb (v + 1) n x) (and_from (leb v j) (ltb j (v + s)) (le-leb v j y) (lt-ltb j (v + s) z))

-- and when it receives one
abbrev is_getting : ℕ → ℕ → ℕ → ℕ → Bool
is_getting n s j v = ltb 0 v && is_passing n s j (v - 1)

pub record Gets (n s j v : ℕ) : Type 0 where
  pub has_giver : 0 < v
  pub passes : Passes n s j (v - 1)

gets_of : (n s j v : ℕ) → is_getting n s j v ≡ true → Gets n s j v
gets_of n s j v h =
    let a = and_parts (ltb 0 v) (is_passing n s j (v - 1)) h in
    record { has_giver = ltb-true 0 v a.0; passes = passes_of n s j (v - 1) a.1 }

is_getting-from : (n s j v : ℕ) → 0 < v → v < n → v ≤ suc j → suc j < v + s → is_getting n s j v ≡ true
is_getting-from n s j v pos x y z =
    and_from (ltb 0 v) (is_passing n s j (v - 1)) (lt-ltb 0 v pos) (is_passing-from n s j (v - 1) (omega arith) (omega arith) (omega arith))

-- the round of one member, by whether it passes a segment on and whether it gets one
abbrev receipt_by : ℕ → ℕ → ℕ → ℕ → ℕ → Bool → List Action
receipt_by b n root j v u = cond u (Recv (member_at n root (v - 1)) (segment b (j - (v - 1))) ∷ []) []

abbrev relay_by : ℕ → ℕ → ℕ → ℕ → ℕ → Bool → Bool → List Action
relay_by b n root j v t u = cond t (Send (member_at n root (v + 1)) (segment b (j - v)) ∷ receipt_by b n root j v u) (receipt_by b n root j v u)

module _ (b n root j v : ℕ) (low : root < n) where
  relay_round : (t u : Bool) → (t ≡ true → Passes n (segment_count b) j v) → (u ≡ true → Gets n (segment_count b) j v) → IsRound b (relay_by b n root j v t u)
  relay_round true true h k =
      let p : Passes n (segment_count b) j v = h refl in
      let g : Gets n (segment_count b) j v = k refl in
      let q : Passes n (segment_count b) j (v - 1) = g.passes in
      record {
        fits = (segment_inside b (j - v) (omega arith), (segment_inside b (j - (v - 1)) (omega arith), tt));
        follows = (
          (
            record {
              in_order = omega arith;
              other_peer = tt;
              read_later = tt;
              read_before =
                  ((segments_apart b (j - (v - 1)) (j - v) (λ z. omega arith), tt), tt);
              both_written = tt;
            },
            tt,
          ),
          (tt, tt),
        );
      }
  relay_round true false h k = let p : Passes n (segment_count b) j v =
      h refl in record { fits = (segment_inside b (j - v) (omega arith), tt); follows = (tt, tt) }
  relay_round false true h k =
      let g : Gets n (segment_count b) j v = k refl in
      let q : Passes n (segment_count b) j (v - 1) = g.passes in
      record { fits = (segment_inside b (j - (v - 1)) (omega arith), tt); follows = (tt, tt) }
  relay_round false false h k = record { fits = tt; follows = tt }

  relay_among : (t u : Bool) → v < n → (t ≡ true → Passes n (segment_count b) j v) → AllByRecursion (IsAmong n) (relay_by b n root j v t u)
  relay_among true true hv h = let p : Passes n (segment_count b) j v =
      h refl in (member_at_low n root (v + 1) low p.has_next, (member_at_low n root (v - 1) low (omega arith), tt))
  relay_among true false hv h = let p : Passes n (segment_count b) j v = h refl in (member_at_low n root (v + 1) low p.has_next, tt)
  relay_among false true hv h = (member_at_low n root (v - 1) low (omega arith), tt)
  relay_among false false hv h = tt

  relay_one : (t u : Bool) → (count_by is_send (relay_by b n root j v t u) ≤ 1) × (count_by is_recv (relay_by b n root j v t u) ≤ 1)
  relay_one true true = (omega arith, omega arith)
  relay_one true false = (omega arith, omega arith)
  relay_one false true = (omega arith, omega arith)
  relay_one false false = (omega arith, omega arith)

  relay_in : (p : ℕ) (t u : Bool)
      → in_link p (relay_by b n root j v t u) ≡ cond u (cond (eqb (member_at n root (v - 1)) p) (Some (segment b (j - (v - 1)))) None) None
  relay_in p true true = refl
  relay_in p true false = refl
  relay_in p false true = refl
  relay_in p false false = refl

  relay_out : (p : ℕ) (t u : Bool)
      → out_link p (relay_by b n root j v t u) ≡ cond t (cond (eqb (member_at n root (v + 1)) p) (Some (segment b (j - v))) None) None
  relay_out p true true = refl
  relay_out p true false = refl
  relay_out p false true = refl
  relay_out p false false = refl

  -- it writes no other segment than the one that it gets
  relay_spares : (g : Region) (t u : Bool) → (u ≡ true → Apart (segment b (j - (v - 1))) g)
      → AllByRecursion (λ a. AllApart (writes a) (g ∷ [])) (relay_by b n root j v t u)
  relay_spares g true true h = (tt, (((h refl, tt), tt), tt))
  relay_spares g true false h = (tt, tt)
  relay_spares g false true h = (((h refl, tt), tt), tt)
  relay_spares g false false h = tt

  relay_sends : (u : Bool) → Has (relay_by b n root j v true u) (Send (member_at n root (v + 1)) (segment b (j - v)))
  relay_sends u = inl refl

  relay_receives : (t : Bool) → Has (relay_by b n root j v t true) (Recv (member_at n root (v - 1)) (segment b (j - (v - 1))))
  relay_receives true = inr (inl refl)
  relay_receives false = inl refl

module _ (b n root : ℕ) (low : root < n) where
  -- r gets of p exactly where p passes to r
  relay_meets : (j r p : ℕ) → r < n → p < n → len_of (in_link p (relay b n root j r)) ≡ len_of (out_link r (relay b n root j p))
  relay_meets j r p hr hp =
      ap len_of (relay_in b n root j (from_root n root r) low p (is_passing n (segment_count b) j (from_root n root r))
      (is_getting n (segment_count b) j (from_root n root r)))
      ∙ (go (from_root n root r) (from_root n root p) refl refl (cases_eq (from_root n root p + 1) (from_root n root r))
      ∙ sym (ap len_of (relay_out b n root j (from_root n root p) low r (is_passing n (segment_count b) j (from_root n root p))
      (is_getting n (segment_count b) j (from_root n root p)))))
    where
      into : Bool → Bool → ℕ → Option Region
      into u e i = cond u (cond e (Some (segment b i)) None) None

      none : (u e : Bool) (i : ℕ) → (u ≡ true → e ≡ true → ⊥) → into u e i ≡ None
      none true true i h = absurd (h refl refl)
      none true false i h = refl
      none false e i h = refl

      in_r : from_root n root r < n
      in_r = number_low n root r (from_root n root r) hr (from_root_is n root r low)

      in_p : from_root n root p < n
      in_p = number_low n root p (from_root n root p) hp (from_root_is n root p low)

      go : (v w : ℕ) → from_root n root r ≡ v → from_root n root p ≡ w → (w + 1 ≡ v) ⊎ (w + 1 ≡ v → ⊥)
          → len_of (into (is_getting n (segment_count b) j v) (eqb (member_at n root (v - 1)) p) (j - (v - 1)))
          ≡ len_of (into (is_passing n (segment_count b) j w) (eqb (member_at n root (w + 1)) r) (j - w))
      go v w hv hw (inl k) =
          let z : v - 1 ≡ w = omega arith in
          let giver : member_at n root (v - 1) ≡ p = ap (member_at n root) (z ∙ sym hw) ∙ member_at-from_root n root p low hp in
          let taker : member_at n root (w + 1) ≡ r = ap (member_at n root) (k ∙ sym hv) ∙ member_at-from_root n root r low hr in
          ap (λ e. len_of (into (ltb 0 v && is_passing n (segment_count b) j (v - 1)) e (j - (v - 1)))) (eq-eqb (member_at n root (v - 1)) p giver)
          ∙ (ap (λ t. len_of (into (t && is_passing n (segment_count b) j (v - 1)) true (j - (v - 1)))) (lt-ltb 0 v (omega arith))
          ∙ (ap (λ x. len_of (into (is_passing n (segment_count b) j x) true (j - x))) z
          ∙ sym (ap (λ e. len_of (into (is_passing n (segment_count b) j w) e (j - w))) (eq-eqb (member_at n root (w + 1)) r taker))))
      go v w hv hw (inr k) =
          ap len_of (none (is_getting n (segment_count b) j v) (eqb (member_at n root (v - 1)) p) (j - (v - 1)) (λ u e.
          let g : Gets n (segment_count b) j v = gets_of n (segment_count b) j v u in
          let a : v < n = subst (λ x. x < n) hv in_r in
          let c : from_root n root p ≡ v - 1 =
          ap (from_root n root) (sym (eqb-true (member_at n root (v - 1)) p e)) ∙ from_root-member_at n root (v - 1) low (omega arith) in
          k (omega arith)))
          ∙ sym (ap len_of (none (is_passing n (segment_count b) j w) (eqb (member_at n root (w + 1)) r) (j - w) (λ u e.
          let g : Passes n (segment_count b) j w = passes_of n (segment_count b) j w u in
          let c : from_root n root r ≡ w + 1 =
          ap (from_root n root) (sym (eqb-true (member_at n root (w + 1)) r e)) ∙ from_root-member_at n root (w + 1) low g.has_next in
          k (omega arith))))

  relay_column : (j : ℕ) → IsColumn n b (relay b n root j)
  relay_column j = record {
    is_round = λ r hr. relay_round b n root j (from_root n root r) low (passing r) (getting r)
        (passes_of n (segment_count b) j (from_root n root r)) (gets_of n (segment_count b) j (from_root n root r));
    peers = λ r hr. relay_among b n root j (from_root n root r) low (passing r) (getting r)
        (number_low n root r (from_root n root r) hr (from_root_is n root r low)) (passes_of n (segment_count b) j (from_root n root r));
    aligned = λ r p hr hp. relay_meets j r p hr hp;
    one_send = λ r hr. (relay_one b n root j (from_root n root r) low (passing r) (getting r)).0;
    one_recv = λ r hr. (relay_one b n root j (from_root n root r) low (passing r) (getting r)).1;
  }
    where
      passing : ℕ → Bool
      passing r = is_passing n (segment_count b) j (from_root n root r)

      getting : ℕ → Bool
      getting r = is_getting n (segment_count b) j (from_root n root r)

  pub relaying_columns : (k c : ℕ) → AllByRecursion (IsColumn n b) (relaying b n root k c)
  relaying_columns k zero = tt
  relaying_columns k (suc c) = (relay_column k, relaying_columns (suc k) c)

pub length-relaying : (b n root k c : ℕ) → length (relaying b n root k c) ≡ c
length-relaying b n root k zero = refl
length-relaying b n root k (suc c) = ap suc (length-relaying b n root (suc k) c)

pub relaying-at : (b n root k c i : ℕ) → i < c → column_of (relaying b n root k c) i ≡ relay b n root (k + i)
relaying-at b n root k zero i h = absurd (omega arith)
relaying-at b n root k (suc c) zero h = ap (relay b n root) (let z : k ≡ k + 0 = omega arith in z)
relaying-at b n root k (suc c) (suc i) h =
    relaying-at b n root (suc k) c i (omega arith) ∙ ap (relay b n root) (let z : suc k + i ≡ k + suc i = omega arith in z)

pub relaying_costs : (b n root k c : ℕ) → Costs (relaying b n root k c) c
relaying_costs b n root k zero = free
relaying_costs b n root k (suc c) = exchange (relaying_costs b n root (suc k) c)

-- a family with these rounds
module _ (f : Family) (b n root c : ℕ) (low : root < n) (rounds : (j r : ℕ) → j < c → actions_at f j r ≡ relay b n root j r) where
  abbrev s : ℕ
  s = segment_count b

  abbrev m : ℕ → ℕ
  m v = member_at n root v

  -- the round of the member with number v
  acts : (j v : ℕ) → j < c → v < n → actions_at f j (member_at n root v) ≡ relay_of b n root j v
  acts j v h hv = rounds j (member_at n root v) h ∙ ap (relay_of b n root j) (from_root-member_at n root v low hv)

  receives : (j v : ℕ) → j < c → 0 < v → v < n → v ≤ suc j → suc j < v + s → Has (actions_at f j (m v)) (Recv (m (v - 1)) (segment b (j - (v - 1))))
  receives j v h pos hv x y =
      subst (λ xs. Has xs (Recv (m (v - 1)) (segment b (j - (v - 1))))) (sym (acts j v h hv))
      (subst (λ u. Has (relay_by b n root j v (is_passing n s j v) u) (Recv (m (v - 1)) (segment b (j - (v - 1)))))
      (sym (is_getting-from n s j v pos hv x y)) (relay_receives b n root j v low (is_passing n s j v)))

  sends : (j v : ℕ) → j < c → v + 1 < n → v ≤ j → j < v + s → Has (actions_at f j (m v)) (Send (m (v + 1)) (segment b (j - v)))
  sends j v h hv x y =
      subst (λ xs. Has xs (Send (m (v + 1)) (segment b (j - v)))) (sym (acts j v h (omega arith)))
      (subst (λ t. Has (relay_by b n root j v t (ltb 0 v && is_passing n s j (v - 1))) (Send (m (v + 1)) (segment b (j - v))))
      (sym (is_passing-from n s j v hv x y)) (relay_sends b n root j v low (ltb 0 v && is_passing n s j (v - 1))))

  -- the first segment brings word of the root
  pub relay_hears : 0 < s → (j v q : ℕ) → j ≤ c → v < n → v ≤ j → Heard f 0 (m 0) q → Heard f j (m v) q
  relay_hears some zero v q h hv x e = subst (λ k. Heard f 0 (m k) q) (let z : 0 ≡ v = omega arith in z) e
  relay_hears some (suc j) v q h hv x e = go (λ w k l. relay_hears some j w q (omega arith) k l e) (cases_lt j v)
    where
      go : ((w : ℕ) → w < n → w ≤ j → Heard f j (member_at n root w) q) → (j < v) ⊎ (v ≤ j) → Heard f (suc j) (member_at n root v) q
      go more (inr k) = inl (more v hv k)
      go more (inl k) = inr (
        member_at n root (v - 1),
        receives_has (actions_at f j (member_at n root v)) (member_at n root (v - 1)) (segment b (j - (v - 1)))
            (receives j v (omega arith) (omega arith) hv (omega arith) (omega arith)),
        more (v - 1) (omega arith) (omega arith),
      )

  module _ (lawful : IsLawful n f) (given : ℕ → List ℕ) (laid : GivenFits n f given) (room : (r : ℕ) → r < n → b ≤ (f r).size) where
    -- before round j the member with number v holds the segments up to j - v, and the root all
    pub relay_holds : (x : List ℕ)
        → ((i : ℕ) → i < s → read_of (lock_step f given 0 (m 0)) (segment b i) ≡ read_of x (segment b i)) → (j v i : ℕ) → j ≤ c
        → v < n → i < s → (v ≡ 0) ⊎ (v + i ≤ j) → read_of (lock_step f given j (m v)) (segment b i) ≡ read_of x (segment b i)
    relay_holds x e zero v i h hv hi (inl z) = ap (λ k. read_of (lock_step f given 0 (m k)) (segment b i)) z ∙ e i hi
    relay_holds x e zero v i h hv hi (inr z) = ap (λ k. read_of (lock_step f given 0 (m k)) (segment b i)) (let y : v ≡ 0 = omega arith in y) ∙ e i hi
    relay_holds x e (suc j) v i h hv hi k = go (λ w l t. relay_holds x e j w i (omega arith) l hi t) k (cases_eq v 0) (cases_lt j (v + i))
      where
        member : m v < n
        member = member_at_low n root v low hv

        -- what it has it keeps
        kept : (v ≡ 0) ⊎ (v + i ≤ j) → read_of (lock_step f given (suc j) (m v)) (segment b i) ≡ read_of (lock_step f given j (m v)) (segment b i)
        kept t =
            round_kept n f lawful given laid j (m v) (segment b i) member
            (let y : Inside b (segment b i) = segment_inside b i hi in let z : b ≤ (f (m v)).size = room (m v) member in omega arith)
            (subst (AllByRecursion (λ a. AllApart (writes a) (segment b i ∷ []))) (sym (acts j v (omega arith) hv))
            (relay_spares b n root j v low (segment b i) (is_passing n s j v) (is_getting n s j v)
            (λ u. segments_apart b (j - (v - 1)) i (later t (gets_of n s j v u)))))
          where
            later : (v ≡ 0) ⊎ (v + i ≤ j) → Gets n (segment_count b) j v → j - (v - 1) ≡ i → ⊥
            later (inl y) g z = let p : 0 < v = g.has_giver in absurd (omega arith)
            later (inr y) g z = let p : 0 < v = g.has_giver in absurd (omega arith)

        -- and it gets one segment more
        came : 0 < v → v + i ≡ suc j → read_of (lock_step f given (suc j) (m v)) (segment b i) ≡ read_of (lock_step f given j (m (v - 1))) (segment b i)
        came pos y =
            let at : j - (v - 1) ≡ i = omega arith in
            round_held n f lawful given laid j (m v) (Recv (m (v - 1)) (segment b i)) (segment b i) member
            (subst (λ k. Has (actions_at f j (m v)) (Recv (m (v - 1)) (segment b k))) at (receives j v (omega arith) pos hv (omega arith) (omega arith))) refl
            ∙ message_is n f lawful given laid j (m v) (m (v - 1)) (segment b i) (member_at_low n root (v - 1) low (omega arith))
            (subst (λ k. Has (actions_at f j (m (v - 1))) (Send (m v) (segment b k))) at
            (subst (λ w. Has (actions_at f j (m (v - 1))) (Send (m w) (segment b (j - (v - 1)))))
            (let z : v - 1 + 1 ≡ v = omega arith in z) (sends j (v - 1) (omega arith) (omega arith) (omega arith) (omega arith))))

        go : ((w : ℕ) → w < n → (w ≡ 0) ⊎ (w + i ≤ j) → read_of (lock_step f given j (member_at n root w)) (segment b i) ≡ read_of x (segment b i))
            → (v ≡ 0) ⊎ (v + i ≤ suc j) → (v ≡ 0) ⊎ (v ≡ 0 → ⊥) → (j < v + i) ⊎ (v + i ≤ j)
            → read_of (lock_step f given (suc j) (member_at n root v)) (segment b i) ≡ read_of x (segment b i)
        go more t (inl z) l = kept (inl z) ∙ more v hv (inl z)
        go more t (inr z) (inr l) = kept (inr l) ∙ more v hv (inr l)
        go more (inl y) (inr z) (inl l) = absurd (z y)
        go more (inr y) (inr z) (inl l) = came (omega arith) (omega arith) ∙ more (v - 1) (omega arith) (inr (omega arith))
