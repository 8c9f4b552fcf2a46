-- recursive doubling: the rounds of an allreduce are lawful, and what they cost
use Rattle.std.proofs.Common.{◌≡◌, ℕ, zero, suc, ◌+◌, ◌-◌, ◌%◌, ◌^◌, ◌<◌, ◌≤◌, ◌⊎◌, inl, inr, Bool, true, false, cond, eqb, ltb, List, [], ◌∷◌, ◌++◌}
use Rattle.std.proofs.Common.{length, Some, None, IsTrue, refl, sym, ap, subst, ◌∙◌, arith, eq-eqb, ne_eqb, pow_pos, count_by}
use Rattle.std.proofs.lemmas.Bool.{cases_eq}
use Rattle.std.specs.List.{AllByRecursion, list_any}
use Rattle.coll_kinds.specs.declared.operation.Op.{Op}
use Rattle.coll_kinds.specs.declared.datatype.Datatype.{Datatype}
use Rattle.coll_kinds.specs.Common.{width, allowed}
use Rattle.coll_sched.specs.declared.action.Action.{Action}
use Rattle.coll_sched.specs.declared.action.Action.TheVariants.{Combine}
use Rattle.coll_sched.specs.Common.{front, behind, IsAmong, IsRound, has_peer, in_link, out_link, len_of, is_send, is_recv}
use Rattle.coll_trees.specs.Columns.{Column}
use Rattle.coll_trees.proofs.Columns.{IsColumn, IsLocalColumn, column_of, column-left, column-right, all_append, Costs, free, local_round, exchange}
use Rattle.coll_trees.proofs.Columns.{costs_append, costs_more}
use Rattle.coll_plans.specs.declared.recursive_doubling_fold.FoldPart.{FoldPart}
use Rattle.coll_plans.specs.declared.recursive_doubling_fold.FoldPart.TheVariants.{Lower, Upper, Alone}
use Rattle.coll_plans.specs.RecursiveDoublingHypercube.{fold_part, corner, mate}
use Rattle.coll_plans.specs.RecursiveDoubling.{fold_gives, fold_joins, swap, exchanges, joins_by, tells, give, pair_up, exchange_at, exchange_joins}
use Rattle.coll_plans.specs.RecursiveDoubling.{tell, hypercube_rounds, recursive_doubling}
use Rattle.coll_plans.proofs.RecursiveDoublingHypercube.{FoldPartIs, is_lower, is_upper, is_alone, fold_part_is, fold_part_alone, Leads, mate_back}
use Rattle.coll_plans.proofs.RecursiveDoublingHypercube.{mate_leads, mate_in}
use Rattle.coll_plans.proofs.LocalRounds.{AreLocal, local_column, is_local_column}

-- each round of one member by itself
fold_gives_round : (b r : ℕ) (o : FoldPart) → IsRound (b + b) (fold_gives b r o)
fold_gives_round b r Lower = record { fits = (omega arith, tt); follows = (tt, tt) }
fold_gives_round b r Upper = record { fits = (omega arith, tt); follows = (tt, tt) }
fold_gives_round b r Alone = record { fits = tt; follows = tt }

tells_round : (b r : ℕ) (o : FoldPart) → IsRound (b + b) (tells b r o)
tells_round b r Lower = record { fits = (omega arith, tt); follows = (tt, tt) }
tells_round b r Upper = record { fits = (omega arith, tt); follows = (tt, tt) }
tells_round b r Alone = record { fits = tt; follows = tt }

swap_round : (b p : ℕ) → IsRound (b + b) (swap b p)
swap_round b p = record {
  fits = (omega arith, (omega arith, tt));
  follows = (
    (
      record { in_order = omega arith; other_peer = tt; read_later = tt; read_before = (((λ k x y z w. omega arith), tt), tt); both_written = tt },
      tt,
    ),
    (tt, tt),
  );
}

exchanges_round : (b p : ℕ) (o : FoldPart) → IsRound (b + b) (exchanges b p o)
exchanges_round b p Lower = swap_round b p
exchanges_round b p Upper = record { fits = tt; follows = tt }
exchanges_round b p Alone = swap_round b p

fold_gives_one : (b r : ℕ) (o : FoldPart) → (count_by is_send (fold_gives b r o) ≤ 1) × (count_by is_recv (fold_gives b r o) ≤ 1)
fold_gives_one b r Lower = (omega arith, omega arith)
fold_gives_one b r Upper = (omega arith, omega arith)
fold_gives_one b r Alone = (omega arith, omega arith)

tells_one : (b r : ℕ) (o : FoldPart) → (count_by is_send (tells b r o) ≤ 1) × (count_by is_recv (tells b r o) ≤ 1)
tells_one b r Lower = (omega arith, omega arith)
tells_one b r Upper = (omega arith, omega arith)
tells_one b r Alone = (omega arith, omega arith)

exchanges_one : (b p : ℕ) (o : FoldPart) → (count_by is_send (exchanges b p o) ≤ 1) × (count_by is_recv (exchanges b p o) ≤ 1)
exchanges_one b p Lower = (omega arith, omega arith)
exchanges_one b p Upper = (omega arith, omega arith)
exchanges_one b p Alone = (omega arith, omega arith)

-- pairs: their peers, and that a Recv has its Send
module _ (b n e : ℕ) (room : e + e ≤ n) where
  fold_gives_among : (r : ℕ) (o : FoldPart) → r < n → FoldPartIs e r (corner e r) o → AllByRecursion (IsAmong n) (fold_gives b r o)
  fold_gives_among r Lower low (is_lower h k) = (omega arith, tt)
  fold_gives_among r Upper low (is_upper h k) = (omega arith, tt)
  fold_gives_among r Alone low (is_alone h k) = tt

  tells_among : (r : ℕ) (o : FoldPart) → r < n → FoldPartIs e r (corner e r) o → AllByRecursion (IsAmong n) (tells b r o)
  tells_among r Lower low (is_lower h k) = (omega arith, tt)
  tells_among r Upper low (is_upper h k) = (omega arith, tt)
  tells_among r Alone low (is_alone h k) = tt

  -- a link is there where the peers fit, on both sides
  pub links : (m p w r l : ℕ) (g h : ℕ) → (m ≡ p → w ≡ r) → (w ≡ r → m ≡ p)
      → len_of (cond (eqb m p) (Some (record { at = g; len = l })) None) ≡ len_of (cond (eqb w r) (Some (record { at = h; len = l })) None)
  links m p w r l g h to from = go (cases_eq m p)
    where
      go : (m ≡ p) ⊎ (m ≡ p → ⊥)
          → len_of (cond (eqb m p) (Some (record { at = g; len = l })) None) ≡ len_of (cond (eqb w r) (Some (record { at = h; len = l })) None)
      go (inl k) =
          ap (λ t. len_of (cond t (Some (record { at = g; len = l })) None)) (eq-eqb m p k)
          ∙ sym (ap (λ t. len_of (cond t (Some (record { at = h; len = l })) None)) (eq-eqb w r (to k)))
      go (inr k) =
          ap (λ t. len_of (cond t (Some (record { at = g; len = l })) None)) (ne_eqb m p k)
          ∙ sym (ap (λ t. len_of (cond t (Some (record { at = h; len = l })) None)) (ne_eqb w r (λ x. k (from x))))

  -- and none where they can't
  pub none_linked : (m p l g : ℕ) → (m ≡ p → ⊥) → len_of (cond (eqb m p) (Some (record { at = g; len = l })) None) ≡ None
  none_linked m p l g k = ap (λ t. len_of (cond t (Some (record { at = g; len = l })) None)) (ne_eqb m p k)

  fold_gives_meet : (r p : ℕ) (o u : FoldPart) → FoldPartIs e r (corner e r) o → FoldPartIs e p (corner e p) u
      → len_of (in_link p (fold_gives b r o)) ≡ len_of (out_link r (fold_gives b p u))
  fold_gives_meet r p Lower Lower (is_lower h k) (is_lower x y) = none_linked (r + 1) p b b (λ z. omega arith)
  fold_gives_meet r p Lower Upper (is_lower h k) (is_upper x y) = links (r + 1) p (p - 1) r b b 0 (λ z. omega arith) (λ z. omega arith)
  fold_gives_meet r p Lower Alone (is_lower h k) (is_alone x y) = none_linked (r + 1) p b b (λ z. omega arith)
  fold_gives_meet r p Upper Lower (is_upper h k) (is_lower x y) = refl
  fold_gives_meet r p Upper Upper (is_upper h k) (is_upper x y) = sym (none_linked (p - 1) r b 0 (λ z. omega arith))
  fold_gives_meet r p Upper Alone (is_upper h k) (is_alone x y) = refl
  fold_gives_meet r p Alone Lower (is_alone h k) (is_lower x y) = refl
  fold_gives_meet r p Alone Upper (is_alone h k) (is_upper x y) = sym (none_linked (p - 1) r b 0 (λ z. omega arith))
  fold_gives_meet r p Alone Alone (is_alone h k) (is_alone x y) = refl

  tells_meet : (r p : ℕ) (o u : FoldPart) → FoldPartIs e r (corner e r) o → FoldPartIs e p (corner e p) u
      → len_of (in_link p (tells b r o)) ≡ len_of (out_link r (tells b p u))
  tells_meet r p Lower Lower (is_lower h k) (is_lower x y) = sym (none_linked (p + 1) r b 0 (λ z. omega arith))
  tells_meet r p Lower Upper (is_lower h k) (is_upper x y) = refl
  tells_meet r p Lower Alone (is_lower h k) (is_alone x y) = refl
  tells_meet r p Upper Lower (is_upper h k) (is_lower x y) = links (r - 1) p (p + 1) r b 0 0 (λ z. omega arith) (λ z. omega arith)
  tells_meet r p Upper Upper (is_upper h k) (is_upper x y) = none_linked (r - 1) p b 0 (λ z. omega arith)
  tells_meet r p Upper Alone (is_upper h k) (is_alone x y) = none_linked (r - 1) p b 0 (λ z. omega arith)
  tells_meet r p Alone Lower (is_alone h k) (is_lower x y) = sym (none_linked (p + 1) r b 0 (λ z. omega arith))
  tells_meet r p Alone Upper (is_alone h k) (is_upper x y) = refl
  tells_meet r p Alone Alone (is_alone h k) (is_alone x y) = refl

  give_column : IsColumn n (b + b) (give b e)
  give_column = record {
    is_round = λ r low. fold_gives_round b r (fold_part e r);
    peers = λ r low. fold_gives_among r (fold_part e r) low (fold_part_is e r);
    aligned = λ r p hr hp. fold_gives_meet r p (fold_part e r) (fold_part e p) (fold_part_is e r) (fold_part_is e p);
    one_send = λ r low. (fold_gives_one b r (fold_part e r)).0;
    one_recv = λ r low. (fold_gives_one b r (fold_part e r)).1;
  }

  tell_column : IsColumn n (b + b) (tell b e)
  tell_column = record {
    is_round = λ r low. tells_round b r (fold_part e r);
    peers = λ r low. tells_among r (fold_part e r) low (fold_part_is e r);
    aligned = λ r p hr hp. tells_meet r p (fold_part e r) (fold_part e p) (fold_part_is e r) (fold_part_is e p);
    one_send = λ r low. (tells_one b r (fold_part e r)).0;
    one_recv = λ r low. (tells_one b r (fold_part e r)).1;
  }

  -- an exchange is mutual
  exchanges_meet : (s r p : ℕ) (o u : FoldPart) → 0 < s → fold_part e r ≡ o → fold_part e p ≡ u
      → len_of (in_link p (exchanges b (mate e s r) o)) ≡ len_of (out_link r (exchanges b (mate e s p) u))
  exchanges_meet s r p o u pos x y = go o u x y
    where
      both : Leads (fold_part e r) → Leads (fold_part e p) → len_of (in_link p (swap b (mate e s r))) ≡ len_of (out_link r (swap b (mate e s p)))
      both h k = links (mate e s r) p (mate e s p) r b b 0
          (λ z. ap (mate e s) (sym z) ∙ mate_back e s r pos h) (λ z. ap (mate e s) (sym z) ∙ mate_back e s p pos k)

      never : (q w : ℕ) → fold_part e w ≡ Upper → mate e s q ≡ w → ⊥
      never q w h k = subst Leads (ap (fold_part e) k ∙ h) (mate_leads e s q)

      leads : {v : FoldPart} (q : ℕ) → fold_part e q ≡ v → Leads v → Leads (fold_part e q)
      leads q h k = subst Leads (sym h) k

      go : (o u : FoldPart) → fold_part e r ≡ o → fold_part e p ≡ u
          → len_of (in_link p (exchanges b (mate e s r) o)) ≡ len_of (out_link r (exchanges b (mate e s p) u))
      go Lower Lower h k = both (leads r h tt) (leads p k tt)
      go Lower Upper h k = none_linked (mate e s r) p b b (never r p k)
      go Lower Alone h k = both (leads r h tt) (leads p k tt)
      go Upper Lower h k = sym (none_linked (mate e s p) r b 0 (never p r h))
      go Upper Upper h k = refl
      go Upper Alone h k = sym (none_linked (mate e s p) r b 0 (never p r h))
      go Alone Lower h k = both (leads r h tt) (leads p k tt)
      go Alone Upper h k = none_linked (mate e s r) p b b (never r p k)
      go Alone Alone h k = both (leads r h tt) (leads p k tt)

  exchanges_among : (p : ℕ) (o : FoldPart) → p < n → AllByRecursion (IsAmong n) (exchanges b p o)
  exchanges_among p Lower h = (h, (h, tt))
  exchanges_among p Upper h = tt
  exchanges_among p Alone h = (h, (h, tt))

  exchange_column : (i d : ℕ) → i < d → e ≤ 2 ^ d → e + 2 ^ d ≡ n → IsColumn n (b + b) (exchange_at b e (2 ^ i))
  exchange_column i d h k w = record {
    is_round = λ r low. exchanges_round b (mate e (2 ^ i) r) (fold_part e r);
    peers = λ r low. exchanges_among (mate e (2 ^ i) r) (fold_part e r) (subst (λ m. mate e (2 ^ i) r < m) w (mate_in e i d r h k (omega arith)));
    aligned = λ r p hr hp. exchanges_meet (2 ^ i) r p (fold_part e r) (fold_part e p) (pow_pos i) refl refl;
    one_send = λ r low. (exchanges_one b (mate e (2 ^ i) r) (fold_part e r)).0;
    one_recv = λ r low. (exchanges_one b (mate e (2 ^ i) r) (fold_part e r)).1;
  }

-- the rounds in which members combine
module _ (op : Op) (ty : Datatype) (b : ℕ) where
  pairs_local : (o : FoldPart) → AreLocal (fold_joins op ty b o)
  pairs_local Lower = (tt, tt)
  pairs_local Upper = tt
  pairs_local Alone = tt

  joined_by : Bool → List Action
  joined_by t = cond t (Combine op ty (front b) (behind b) (front b) ∷ []) (Combine op ty (behind b) (front b) (front b) ∷ [])

  joined_local : (t : Bool) → AreLocal (joined_by t)
  unfolding joined_by
  joined_local true = (tt, tt)
  joined_local false = (tt, tt)

  joins_local : (q s : ℕ) (o : FoldPart) → AreLocal (joins_by op ty b q s o)
  unfolding joined_by
  joins_local q s Lower = joined_local (ltb (q % (s + s)) s)
  joins_local q s Upper = tt
  joins_local q s Alone = joined_local (ltb (q % (s + s)) s)

  pair_up-free : (e : ℕ) → IsLocalColumn (pair_up op ty b e)
  pair_up-free e = is_local_column (pair_up op ty b e) (λ r. pairs_local (fold_part e r))

  exchange_joins-free : (e s : ℕ) → IsLocalColumn (exchange_joins op ty b e s)
  exchange_joins-free e s = is_local_column (exchange_joins op ty b e s) (λ r. joins_local (corner e r) s (fold_part e r))

  module _ (fit : b % width ty ≡ 0) (may : IsTrue (allowed op ty)) where
    pairs_round : (o : FoldPart) → IsRound (b + b) (fold_joins op ty b o)
    pairs_round Lower = record { fits = ((omega arith, omega arith, omega arith, refl, refl, may, fit), tt); follows = (tt, tt) }
    pairs_round Upper = record { fits = tt; follows = tt }
    pairs_round Alone = record { fits = tt; follows = tt }

    joined_round : (t : Bool) → IsRound (b + b) (joined_by t)
    unfolding joined_by
    joined_round true = record { fits = ((omega arith, omega arith, omega arith, refl, refl, may, fit), tt); follows = (tt, tt) }
    joined_round false = record { fits = ((omega arith, omega arith, omega arith, refl, refl, may, fit), tt); follows = (tt, tt) }

    joins_round : (q s : ℕ) (o : FoldPart) → IsRound (b + b) (joins_by op ty b q s o)
    unfolding joined_by
    joins_round q s Lower = joined_round (ltb (q % (s + s)) s)
    joins_round q s Upper = record { fits = tt; follows = tt }
    joins_round q s Alone = joined_round (ltb (q % (s + s)) s)

    module _ (n e d : ℕ) (room : e ≤ 2 ^ d) (whole : e + 2 ^ d ≡ n) where
      hypercube_columns : (k c : ℕ) → k + c ≤ d → AllByRecursion (IsColumn n (b + b)) (hypercube_rounds op ty b e k c)
      hypercube_columns k zero h = tt
      hypercube_columns k (suc c) h = (
        exchange_column b n e (omega arith) k d (omega arith) room whole,
        (
          local_column n (b + b) (exchange_joins op ty b e (2 ^ k)) (λ r. joins_local (corner e r) (2 ^ k) (fold_part e r))
              (λ r low. joins_round (corner e r) (2 ^ k) (fold_part e r)),
          hypercube_columns (suc k) c (omega arith),
        ),
      )

      pub exchanging_columns : AllByRecursion (IsColumn n (b + b)) (recursive_doubling op ty b e d)
      exchanging_columns = (
        give_column b n e (omega arith),
        (
          local_column n (b + b) (pair_up op ty b e) (λ r. pairs_local (fold_part e r)) (λ r low. pairs_round (fold_part e r)),
          all_append (IsColumn n (b + b)) (hypercube_rounds op ty b e 0 d) (tell b e ∷ []) (hypercube_columns 0 d (omega arith))
              (tell_column b n e (omega arith), tt),
        ),
      )

  hypercube_costs : (e k c : ℕ) → Costs (hypercube_rounds op ty b e k c) c
  hypercube_costs e k zero = free
  hypercube_costs e k (suc c) = exchange (local_round (exchange_joins-free e (2 ^ k)) (hypercube_costs e (suc k) c))

  -- with as many members as corners there are no pairs
  no_gives : (r : ℕ) → list_any has_peer (give b 0 r) ≡ false
  no_gives r = ap (λ o. list_any has_peer (fold_gives b r o)) (fold_part_alone 0 r (omega arith))

  no_tells : (r : ℕ) → list_any has_peer (tell b 0 r) ≡ false
  no_tells r = ap (λ o. list_any has_peer (tells b r o)) (fold_part_alone 0 r (omega arith))

  pub even_costs : (d : ℕ) → Costs (recursive_doubling op ty b 0 d) d
  even_costs d =
      local_round no_gives (local_round (pair_up-free 0)
      (costs_append (hypercube_rounds op ty b 0 0 d) (tell b 0 ∷ []) d 0 d (omega arith) (hypercube_costs 0 0 d) (local_round no_tells free)))

  pub exchanging_costs : (e d : ℕ) → Costs (recursive_doubling op ty b e d) (d + 2)
  exchanging_costs e d =
      costs_more (let z : suc (d + 1) ≤ d + 2 = omega arith in z)
      (exchange (local_round (pair_up-free e)
      (costs_append (hypercube_rounds op ty b e 0 d) (tell b e ∷ []) d 1 (d + 1) refl (hypercube_costs e 0 d) (exchange free))))

  -- which round is which
  pub length-hypercube_rounds : (e k c : ℕ) → length (hypercube_rounds op ty b e k c) ≡ c + c
  length-hypercube_rounds e k zero = refl
  length-hypercube_rounds e k (suc c) = let l : length (hypercube_rounds op ty b e (suc k) c) ≡ c + c = length-hypercube_rounds e (suc k) c in omega arith

  hypercube_rounds-exchanges : (e k c i : ℕ) → i < c → column_of (hypercube_rounds op ty b e k c) (i + i) ≡ exchange_at b e (2 ^ (k + i))
  hypercube_rounds-exchanges e k zero i h = absurd (omega arith)
  hypercube_rounds-exchanges e k (suc c) zero h = ap (λ j. exchange_at b e (2 ^ j)) (let z : k ≡ k + 0 = omega arith in z)
  hypercube_rounds-exchanges e k (suc c) (suc i) h =
      ap (column_of (hypercube_rounds op ty b e k (suc c))) (let z : suc i + suc i ≡ suc (suc (i + i)) = omega arith in z)
      ∙ (hypercube_rounds-exchanges e (suc k) c i (omega arith) ∙ ap (λ j. exchange_at b e (2 ^ j)) (let z : suc k + i ≡ k + suc i = omega arith in z))

  hypercube_rounds-joins : (e k c i : ℕ) → i < c → column_of (hypercube_rounds op ty b e k c) (suc (i + i)) ≡ exchange_joins op ty b e (2 ^ (k + i))
  hypercube_rounds-joins e k zero i h = absurd (omega arith)
  hypercube_rounds-joins e k (suc c) zero h = ap (λ j. exchange_joins op ty b e (2 ^ j)) (let z : k ≡ k + 0 = omega arith in z)
  hypercube_rounds-joins e k (suc c) (suc i) h =
      ap (column_of (hypercube_rounds op ty b e k (suc c))) (let z : suc (suc i + suc i) ≡ suc (suc (suc (i + i))) = omega arith in z)
      ∙ (hypercube_rounds-joins e (suc k) c i (omega arith) ∙ ap (λ j. exchange_joins op ty b e (2 ^ j)) (let z : suc k + i ≡ k + suc i = omega arith in z))

  pub recursive_doubling-exchange_at : (e d i r : ℕ) → i < d → column_of (recursive_doubling op ty b e d) (suc (suc (i + i))) r ≡ exchange_at b e (2 ^ i) r
  recursive_doubling-exchange_at e d i r h =
      let l : length (hypercube_rounds op ty b e 0 d) ≡ d + d = length-hypercube_rounds e 0 d in
      ap (λ (c : Column). c r) (column-left (hypercube_rounds op ty b e 0 d) (tell b e ∷ []) (i + i) (omega arith)
      ∙ (hypercube_rounds-exchanges e 0 d i h ∙ ap (λ j. exchange_at b e (2 ^ j)) (let z : 0 + i ≡ i = omega arith in z)))

  pub recursive_doubling-join : (e d i r : ℕ) → i < d
      → column_of (recursive_doubling op ty b e d) (suc (suc (suc (i + i)))) r ≡ exchange_joins op ty b e (2 ^ i) r
  recursive_doubling-join e d i r h =
      let l : length (hypercube_rounds op ty b e 0 d) ≡ d + d = length-hypercube_rounds e 0 d in
      ap (λ (c : Column). c r) (column-left (hypercube_rounds op ty b e 0 d) (tell b e ∷ []) (suc (i + i)) (omega arith)
      ∙ (hypercube_rounds-joins e 0 d i h ∙ ap (λ j. exchange_joins op ty b e (2 ^ j)) (let z : 0 + i ≡ i = omega arith in z)))

  pub recursive_doubling-tell : (e d r : ℕ) → column_of (recursive_doubling op ty b e d) (suc (suc (d + d))) r ≡ tell b e r
  recursive_doubling-tell e d r =
      ap (λ (c : Column). c r)
      (ap (column_of (hypercube_rounds op ty b e 0 d ++ (tell b e ∷ [])))
      (let z : d + d ≡ length (hypercube_rounds op ty b e 0 d) + 0 = omega (arith, length-hypercube_rounds e 0 d) in z)
      ∙ column-right (hypercube_rounds op ty b e 0 d) (tell b e ∷ []) 0)
