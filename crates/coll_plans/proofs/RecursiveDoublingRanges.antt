-- after each exchange a corner holds the combination of twice as many neighbours, and has heard twice as many members
use Rattle.std.proofs.Common.{◌≡◌, ℕ, zero, suc, ◌+◌, ◌-◌, ◌*◌, ◌%◌, ◌^◌, ◌<◌, ◌≤◌, ◌⊎◌, inl, inr, ltb, List, [], ◌∷◌, length, refl, sym, ap, subst}
use Rattle.std.proofs.Common.{◌∙◌, arith, lt-ltb, le-ltb, pow-suc, pow_pos}
use Rattle.std.proofs.lemmas.Bool.{cases_lt, cond-true, cond-false}
use Rattle.std.specs.List.{AllByRecursion}
use Rattle.coll_kinds.specs.declared.operation.Op.{Op}
use Rattle.coll_kinds.specs.declared.datatype.Datatype.{Datatype}
use Rattle.coll_ops.specs.Combinations.{combined}
use Rattle.coll_ops.specs.Laws.{IsRow}
use Rattle.coll_sched.specs.declared.action.Action.TheVariants.{Send, Combine, Recv}
use Rattle.coll_sched.specs.Common.{read_of, front, behind, Inside, AllApart, writes, Family, actions_at, lock_step, Receives, Heard, IsLawful}
use Rattle.coll_sched.proofs.Rounds.{GivenFits}
use Rattle.coll_sched.proofs.Builders.{Has, round_held, round_kept, message_is}
use Rattle.coll_trees.proofs.Columns.{column_of}
use Rattle.coll_trees.proofs.Spans.{span, Associates, span_join}
use Rattle.coll_plans.specs.declared.recursive_doubling_fold.FoldPart.{FoldPart}
use Rattle.coll_plans.specs.declared.recursive_doubling_fold.FoldPart.TheVariants.{Lower, Upper, Alone}
use Rattle.coll_plans.specs.RecursiveDoublingHypercube.{fold_part, corner, lowest, across, mate}
use Rattle.coll_plans.specs.RecursiveDoubling.{fold_gives, fold_joins, swap, exchanges, joined, joins_by, tells, recursive_doubling}
use Rattle.coll_plans.proofs.RecursiveDoublingHypercube.{lowest_double, lowest_single, lowest_rises, lowest_in, fold_part_lower, fold_part_upper}
use Rattle.coll_plans.proofs.RecursiveDoublingHypercube.{fold_part_alone, FoldPartIs, is_upper, fold_part_is, corner_in, Leads, lowest-corner}
use Rattle.coll_plans.proofs.RecursiveDoublingHypercube.{corner-lowest, lowest_leads, side_low, side_high, across_low, across_high, across_in}
use Rattle.coll_plans.proofs.RecursiveDoublingHypercube.{across_back}
use Rattle.coll_plans.proofs.RecursiveDoublingRounds.{recursive_doubling-exchange_at, recursive_doubling-join, recursive_doubling-tell}

-- who acts for a corner exchanges and joins as one alone
exchanges_leads : (b p : ℕ) (o : FoldPart) → Leads o → exchanges b p o ≡ swap b p
exchanges_leads b p Lower h = refl
exchanges_leads b p Upper h = absurd h
exchanges_leads b p Alone h = refl

joins_leads : (op : Op) (ty : Datatype) (b q s : ℕ) (o : FoldPart) → Leads o → joins_by op ty b q s o ≡ joined op ty b q s
joins_leads op ty b q s Lower h = refl
joins_leads op ty b q s Upper h = absurd h
joins_leads op ty b q s Alone h = refl

-- a family of n members with these rounds, of which the first e corners stand for two
module _ (f : Family) (op : Op) (ty : Datatype) (b n e d : ℕ) (room : e ≤ 2 ^ d) (whole : e + 2 ^ d ≡ n)
    (is : (j r : ℕ) → actions_at f j r ≡ column_of (recursive_doubling op ty b e d) j r) where
  -- the first member of corner q is below n
  lowest_low : (q : ℕ) → q < 2 ^ d → lowest e q < n
  lowest_low q h = subst (λ m. lowest e q < m) whole (lowest_in e (2 ^ d) q room h)

  pow_twice : (i : ℕ) → 2 ^ suc i ≡ 2 ^ i + 2 ^ i
  pow_twice i = omega (arith, pow-suc 2 i)

  -- what the first member of corner q does in exchange i
  exchanges_with : (i q : ℕ) → i < d → actions_at f (suc (suc (i + i))) (lowest e q) ≡ swap b (lowest e (across q (2 ^ i)))
  exchanges_with i q h =
      is (suc (suc (i + i))) (lowest e q)
      ∙ (recursive_doubling-exchange_at op ty b e d i (lowest e q) h
      ∙ (exchanges_leads b (mate e (2 ^ i) (lowest e q)) (fold_part e (lowest e q)) (lowest_leads e q)
      ∙ ap (λ c. swap b (lowest e (across c (2 ^ i)))) (corner-lowest e q)))

  joins_there : (i q : ℕ) → i < d → actions_at f (suc (suc (suc (i + i)))) (lowest e q) ≡ joined op ty b q (2 ^ i)
  joins_there i q h =
      is (suc (suc (suc (i + i)))) (lowest e q)
      ∙ (recursive_doubling-join op ty b e d i (lowest e q) h
      ∙ (joins_leads op ty b (corner e (lowest e q)) (2 ^ i) (fold_part e (lowest e q)) (lowest_leads e q)
      ∙ ap (λ c. joined op ty b c (2 ^ i)) (corner-lowest e q)))

  -- at the beginning and in the end, by how the member stands
  gives_at : (r : ℕ) (o : FoldPart) → fold_part e r ≡ o → actions_at f 0 r ≡ fold_gives b r o
  gives_at r o h = is 0 r ∙ ap (fold_gives b r) h

  pairs_at : (r : ℕ) (o : FoldPart) → fold_part e r ≡ o → actions_at f 1 r ≡ fold_joins op ty b o
  pairs_at r o h = is 1 r ∙ ap (fold_joins op ty b) h

  tells_at : (r : ℕ) (o : FoldPart) → fold_part e r ≡ o → actions_at f (suc (suc (d + d))) r ≡ tells b r o
  tells_at r o h = is (suc (suc (d + d))) r ∙ (recursive_doubling-tell op ty b e d r ∙ ap (tells b r) h)

  -- a corner has heard its members
  pair_heard : (q u : ℕ) → lowest e q ≤ u → u < lowest e (suc q) → Heard f 2 (lowest e q) u
  pair_heard q u low high = go (cases_lt q e)
    where
      go : (q < e) ⊎ (e ≤ q) → Heard f 2 (lowest e q) u
      go (inl h) = inl (other (cases_lt (lowest e q) u))
        where
          same : lowest e q ≡ q + q
          same = lowest_double e q h

          other : (lowest e q < u) ⊎ (u ≤ lowest e q) → Heard f 1 (lowest e q) u
          other (inr k) = inl (omega arith)
          other (inl k) =
              let near : lowest e (suc q) ≤ suc (suc (q + q)) = bound (cases_lt (suc q) e) in
              inr (
                lowest e q + 1,
                subst (λ xs. Receives xs (lowest e q + 1))
                    (sym (gives_at (lowest e q) Lower (ap (fold_part e) (lowest_double e q h) ∙ fold_part_lower e q h))) (inl refl),
                omega (arith, lowest_double e q h),
              )
            where
              bound : (suc q < e) ⊎ (e ≤ suc q) → lowest e (suc q) ≤ suc (suc (q + q))
              bound (inl k) = omega (arith, lowest_double e (suc q) k)
              bound (inr k) = omega (arith, lowest_single e (suc q) k)
      go (inr h) = inl (inl (omega (arith, lowest_single e q h, lowest_single e (suc q) (let z : e ≤ suc q = omega arith in z))))

  -- the two halves of a block of s + s corners from corner a on
  across_up : (m s a x : ℕ) → a ≡ m * (s + s) → x < s → across (a + x) s ≡ a + s + x
  across_up m s a x h k = ap (λ y. across (y + x) s) h ∙ (across_low m s x k ∙ omega arith)

  across_down : (m s a x : ℕ) → a ≡ m * (s + s) → x < s → across (a + s + x) s ≡ a + x
  across_down m s a x h k = ap (λ y. across y s) (let z : a + s + x ≡ m * (s + s) + (s + x) = omega arith in z) ∙ (across_high m s x k ∙ omega arith)

  -- a corner hears what the corner across has heard
  told : (i q u : ℕ) → i < d → Heard f (suc (suc (i + i))) (lowest e (across q (2 ^ i))) u → Heard f (suc (suc (suc (i + i)))) (lowest e q) u
  told i q u h k = inr (
    lowest e (across q (2 ^ i)),
    subst (λ xs. Receives xs (lowest e (across q (2 ^ i)))) (sym (exchanges_with i q h)) (inr (inl refl)),
    k,
  )

  -- after i exchanges a corner has heard all of its block of 2 ^ i corners
  block_heard : (i m a x u : ℕ) → i ≤ d → a ≡ m * 2 ^ i → x < 2 ^ i → lowest e a ≤ u → u < lowest e (a + 2 ^ i)
      → Heard f (suc (suc (i + i))) (lowest e (a + x)) u
  block_heard zero m a x u h begins near low high =
      subst (λ q. Heard f 2 (lowest e q) u) (let z : a ≡ a + x = omega arith in z)
      (pair_heard a u low (subst (λ q. u < lowest e q) (let z : a + 2 ^ 0 ≡ suc a = omega arith in z) high))
  block_heard (suc i) m a x u h begins near low high =
      subst (λ j. Heard f j (lowest e (a + x)) u) (let z : suc (suc (suc (suc (i + i)))) ≡ suc (suc (suc i + suc i)) = omega arith in z)
      (inl (go (λ k c y g t l v. block_heard i k c y u (omega arith) g t l v) (cases_lt x (2 ^ i)) (cases_lt u (lowest e (a + 2 ^ i)))))
    where
      whole_block : a ≡ m * (2 ^ i + 2 ^ i)
      whole_block = begins ∙ ap (λ t. m * t) (pow_twice i)

      first_half : a ≡ (m + m) * 2 ^ i
      first_half = let z : a ≡ m * (2 ^ i + 2 ^ i) = whole_block in omega arith

      second_half : a + 2 ^ i ≡ suc (m + m) * 2 ^ i
      second_half = let z : a ≡ m * (2 ^ i + 2 ^ i) = whole_block in omega arith

      above : u < lowest e (a + 2 ^ i + 2 ^ i)
      above = subst (λ q. u < lowest e q) (let z : a + 2 ^ suc i ≡ a + 2 ^ i + 2 ^ i = omega (arith, pow_twice i) in z) high

      go : ((k c y : ℕ) → c ≡ k * 2 ^ i → y < 2 ^ i → lowest e c ≤ u → u < lowest e (c + 2 ^ i) → Heard f (suc (suc (i + i))) (lowest e (c + y)) u)
          → (x < 2 ^ i) ⊎ (2 ^ i ≤ x) → (u < lowest e (a + 2 ^ i)) ⊎ (lowest e (a + 2 ^ i) ≤ u) → Heard f (suc (suc (suc (i + i)))) (lowest e (a + x)) u
      go more (inl y) (inl t) = inl (more (m + m) a x first_half y low t)
      go more (inl y) (inr t) =
          told i (a + x) u (omega arith)
          (subst (λ q. Heard f (suc (suc (i + i))) (lowest e q) u) (sym (across_up m (2 ^ i) a x whole_block y))
          (more (suc (m + m)) (a + 2 ^ i) x second_half y t above))
      go more (inr y) t =
          let l : x - 2 ^ i < 2 ^ i = omega (arith, pow_twice i) in
          let z : a + 2 ^ i + (x - 2 ^ i) ≡ a + x = omega arith in
          subst (λ q. Heard f (suc (suc (suc (i + i)))) (lowest e q) u) z (upper l t)
        where
          upper : x - 2 ^ i < 2 ^ i → (u < lowest e (a + 2 ^ i)) ⊎ (lowest e (a + 2 ^ i) ≤ u)
              → Heard f (suc (suc (suc (i + i)))) (lowest e (a + 2 ^ i + (x - 2 ^ i))) u
          upper l (inl t) =
              told i (a + 2 ^ i + (x - 2 ^ i)) u (omega arith)
              (subst (λ q. Heard f (suc (suc (i + i))) (lowest e q) u) (sym (across_down m (2 ^ i) a (x - 2 ^ i) whole_block l))
              (more (m + m) a (x - 2 ^ i) first_half l low t))
          upper l (inr t) = inl (more (suc (m + m)) (a + 2 ^ i) (x - 2 ^ i) second_half l t above)

  -- the corners are all members
  lowest_first : lowest e 0 ≡ 0
  lowest_first = go (cases_lt 0 e)
    where
      go : (0 < e) ⊎ (e ≤ 0) → lowest e 0 ≡ 0
      go (inl h) = omega (arith, lowest_double e 0 h)
      go (inr h) = omega (arith, lowest_single e 0 h)

  lowest_last : lowest e (0 + 2 ^ d) ≡ n
  lowest_last = omega (arith, lowest_single e (0 + 2 ^ d) (let z : e ≤ 0 + 2 ^ d = omega arith in z))

  lowest_top : (c : ℕ) → c ≤ 2 ^ d → lowest e c ≤ n
  lowest_top c h = go (cases_lt c e)
    where
      go : (c < e) ⊎ (e ≤ c) → lowest e c ≤ n
      go (inl k) = omega (arith, lowest_double e c k)
      go (inr k) = omega (arith, lowest_single e c k)

  lead_heard : (r u : ℕ) → r < n → Leads (fold_part e r) → u < n → Heard f (suc (suc (d + d))) r u
  lead_heard r u hr lead hu =
      subst (λ p. Heard f (suc (suc (d + d))) p u) (ap (lowest e) (let z : 0 + corner e r ≡ corner e r = omega arith in z) ∙ lowest-corner e r lead)
      (block_heard d 0 0 (corner e r) u (omega arith) (omega arith) (corner_in e (2 ^ d) r room (omega arith))
      (omega (arith, lowest_first)) (omega (arith, lowest_last)))

  leads : (r : ℕ) (o : FoldPart) → fold_part e r ≡ o → Leads o → Leads (fold_part e r)
  leads r o h k = subst Leads (sym h) k

  -- in the end each member has heard all
  pub all_heard : (r u : ℕ) → r < n → u < n → Heard f (suc (suc (suc (d + d)))) r u
  all_heard r u hr hu = go (fold_part e r) refl (fold_part_is e r)
    where
      go : (o : FoldPart) → fold_part e r ≡ o → FoldPartIs e r (corner e r) o → Heard f (suc (suc (suc (d + d)))) r u
      go Lower h k = inl (lead_heard r u hr (leads r Lower h tt) hu)
      go Alone h k = inl (lead_heard r u hr (leads r Alone h tt) hu)
      go Upper h (is_upper x y) = inr (
        r - 1,
        subst (λ xs. Receives xs (r - 1)) (sym (tells_at r Upper h)) (inl refl),
        lead_heard (r - 1) u (omega arith)
            (leads (r - 1) Lower (ap (fold_part e) (let z : r - 1 ≡ corner e r + corner e r = omega arith in z) ∙ fold_part_lower e (corner e r) x) tt) hu,
      )

  module _ (lawful : IsLawful n f) (assoc : Associates op ty) (given : ℕ → List ℕ) (laid : GivenFits n f given)
      (rows : (p : ℕ) → p < n → IsRow ty (given p) × (length (given p) ≡ b)) (size : (r : ℕ) → r < n → b + b ≤ (f r).size)
      (start : (r : ℕ) → r < n → read_of (lock_step f given 0 r) (front b) ≡ given r) where
    -- what member r holds before round j
    abbrev held_at : ℕ → ℕ → List ℕ
    held_at j r = read_of (lock_step f given j r) (front b)

    front_in : (r : ℕ) → r < n → Inside (f r).size (front b)
    front_in r h = let z : b + b ≤ (f r).size = size r h in omega arith

    -- the rows of the corners from a to c
    abbrev part : ℕ → ℕ → List ℕ
    part a c = span op ty given (lowest e a) (lowest e c - lowest e a)

    part_join : (a m c : ℕ) → a < m → m < c → c ≤ 2 ^ d → combined op ty (part a m) (part m c) ≡ part a c
    part_join a m c h k top =
        let x : lowest e a < lowest e m = lowest_rises e a m h in
        let y : lowest e m < lowest e c = lowest_rises e m c k in
        let t : lowest e c ≤ n = lowest_top c top in
        ap (λ p. combined op ty (span op ty given (lowest e a) (lowest e m - lowest e a)) (span op ty given p (lowest e c - lowest e m)))
        (let z : lowest e m ≡ lowest e a + (lowest e m - lowest e a) = omega arith in z)
        ∙ span_join op ty b n assoc given rows (lowest e a) (lowest e m - lowest e a) (lowest e c - lowest e m)
        (lowest e c - lowest e a) (omega arith) (omega arith) (omega arith) (omega arith)

    -- the pairs
    pair_holds : (q : ℕ) → q < 2 ^ d → held_at 2 (lowest e q) ≡ part q (suc q)
    pair_holds q low = go (cases_lt q e)
      where
        go : (q < e) ⊎ (e ≤ q) → read_of (lock_step f given 2 (lowest e q)) (front b) ≡ span op ty given (lowest e q) (lowest e (suc q) - lowest e q)
        go (inr h) =
            let alone : fold_part e (lowest e q) ≡ Alone = ap (fold_part e) (lowest_single e q h) ∙ fold_part_alone e (q + e) (omega arith) in
            round_kept n f lawful given laid 1 (lowest e q) (front b) (lowest_low q low)
            (front_in (lowest e q) (lowest_low q low))
            (subst (AllByRecursion (λ a. AllApart (writes a) (front b ∷ []))) (sym (pairs_at (lowest e q) Alone alone)) tt)
            ∙ (round_kept n f lawful given laid 0 (lowest e q) (front b) (lowest_low q low)
            (front_in (lowest e q) (lowest_low q low))
            (subst (AllByRecursion (λ a. AllApart (writes a) (front b ∷ []))) (sym (gives_at (lowest e q) Alone alone)) tt)
            ∙ (start (lowest e q) (lowest_low q low)
            ∙ ap (span op ty given (lowest e q))
            (let z : 1 ≡ lowest e (suc q) - lowest e q =
            omega (arith, lowest_single e q h, lowest_single e (suc q) (let y : e ≤ suc q = omega arith in y)) in z)))
        go (inl h) =
            let l : lowest e q ≡ q + q = lowest_double e q h in
            let lower : fold_part e (lowest e q) ≡ Lower = ap (fold_part e) l ∙ fold_part_lower e q h in
            let upper : fold_part e (lowest e q + 1) ≡ Upper =
            ap (fold_part e) (let z : lowest e q + 1 ≡ suc (q + q) = omega arith in z) ∙ fold_part_upper e q h in
            round_held n f lawful given laid 1 (lowest e q) (Combine op ty (front b) (behind b) (front b)) (front b) (lowest_low q low)
            (subst (λ xs. Has xs (Combine op ty (front b) (behind b) (front b))) (sym (pairs_at (lowest e q) Lower lower)) (inl refl)) refl
            ∙ (ap (λ x. combined op ty x (read_of (lock_step f given 1 (lowest e q)) (behind b)))
            (round_kept n f lawful given laid 0 (lowest e q) (front b) (lowest_low q low) (front_in (lowest e q) (lowest_low q low))
            (subst (AllByRecursion (λ a. AllApart (writes a) (front b ∷ []))) (sym (gives_at (lowest e q) Lower lower))
            ((((λ k u v w z. omega arith), tt), tt), tt))
            ∙ start (lowest e q) (lowest_low q low))
            ∙ (ap (combined op ty (given (lowest e q)))
            (round_held n f lawful given laid 0 (lowest e q) (Recv (lowest e q + 1) (behind b)) (behind b) (lowest_low q low)
            (subst (λ xs. Has xs (Recv (lowest e q + 1) (behind b))) (sym (gives_at (lowest e q) Lower lower)) (inl refl)) refl
            ∙ (message_is n f lawful given laid 0 (lowest e q) (lowest e q + 1) (front b) (omega arith)
            (subst (λ xs. Has xs (Send (lowest e q) (front b))) (sym (gives_at (lowest e q + 1) Upper upper))
            (inl (ap (λ p. Send p (front b)) (let z : lowest e q + 1 - 1 ≡ lowest e q = omega arith in z))))
            ∙ start (lowest e q + 1) (omega arith)))
            ∙ (ap (λ p. combined op ty (given (lowest e q)) (given p)) (let z : lowest e q + 1 ≡ suc (lowest e q) = omega arith in z)
            ∙ ap (span op ty given (lowest e q)) (two (cases_lt (suc q) e)))))
          where
            two : (suc q < e) ⊎ (e ≤ suc q) → 2 ≡ lowest e (suc q) - lowest e q
            two (inl k) = omega (arith, lowest_double e q h, lowest_double e (suc q) k)
            two (inr k) = omega (arith, lowest_double e q h, lowest_single e (suc q) k)

    -- an exchange keeps what the corner holds, and brings what the corner across holds
    exchange_kept : (i q : ℕ) → i < d → q < 2 ^ d → held_at (suc (suc (suc (i + i)))) (lowest e q) ≡ held_at (suc (suc (i + i))) (lowest e q)
    exchange_kept i q h low =
        round_kept n f lawful given laid (suc (suc (i + i))) (lowest e q) (front b) (lowest_low q low) (front_in (lowest e q) (lowest_low q low))
        (subst (AllByRecursion (λ a. AllApart (writes a) (front b ∷ []))) (sym (exchanges_with i q h)) (tt, ((((λ k x y z w. omega arith), tt), tt), tt)))

    exchange_brings : (i q : ℕ) → i < d → q < 2 ^ d
        → read_of (lock_step f given (suc (suc (suc (i + i)))) (lowest e q)) (behind b) ≡ held_at (suc (suc (i + i))) (lowest e (across q (2 ^ i)))
    exchange_brings i q h low =
        round_held n f lawful given laid (suc (suc (i + i))) (lowest e q) (Recv (lowest e (across q (2 ^ i))) (behind b)) (behind b) (lowest_low q low)
        (subst (λ xs. Has xs (Recv (lowest e (across q (2 ^ i))) (behind b))) (sym (exchanges_with i q h)) (inr (inl refl))) refl
        ∙ message_is n f lawful given laid (suc (suc (i + i))) (lowest e q) (lowest e (across q (2 ^ i))) (front b)
        (lowest_low (across q (2 ^ i)) (across_in i d q h low))
        (subst (λ xs. Has xs (Send (lowest e q) (front b))) (sym (exchanges_with i (across q (2 ^ i)) h))
        (inl (ap (λ c. Send (lowest e c) (front b)) (across_back q (2 ^ i) (pow_pos i)))))

    -- and then the two are combined in member order
    joins_behind : (i q : ℕ) → i < d → q < 2 ^ d → q % (2 ^ i + 2 ^ i) < 2 ^ i
        → held_at (suc (suc (suc (suc (i + i))))) (lowest e q)
        ≡ combined op ty (held_at (suc (suc (i + i))) (lowest e q)) (held_at (suc (suc (i + i))) (lowest e (across q (2 ^ i))))
    joins_behind i q h low half =
        round_held n f lawful given laid (suc (suc (suc (i + i)))) (lowest e q) (Combine op ty (front b) (behind b) (front b)) (front b) (lowest_low q low)
        (subst (λ xs. Has xs (Combine op ty (front b) (behind b) (front b)))
        (sym (joins_there i q h
        ∙ cond-true (ltb (q % (2 ^ i + 2 ^ i)) (2 ^ i)) (Combine op ty (front b) (behind b) (front b) ∷ [])
        (Combine op ty (behind b) (front b) (front b) ∷ []) (lt-ltb _ _ half))) (inl refl)) refl
        ∙ (ap (λ x. combined op ty x (read_of (lock_step f given (suc (suc (suc (i + i)))) (lowest e q)) (behind b))) (exchange_kept i q h low)
        ∙ ap (combined op ty (read_of (lock_step f given (suc (suc (i + i))) (lowest e q)) (front b))) (exchange_brings i q h low))

    joins_before : (i q : ℕ) → i < d → q < 2 ^ d → 2 ^ i ≤ q % (2 ^ i + 2 ^ i)
        → held_at (suc (suc (suc (suc (i + i))))) (lowest e q)
        ≡ combined op ty (held_at (suc (suc (i + i))) (lowest e (across q (2 ^ i)))) (held_at (suc (suc (i + i))) (lowest e q))
    joins_before i q h low half =
        round_held n f lawful given laid (suc (suc (suc (i + i)))) (lowest e q) (Combine op ty (behind b) (front b) (front b)) (front b) (lowest_low q low)
        (subst (λ xs. Has xs (Combine op ty (behind b) (front b) (front b)))
        (sym (joins_there i q h
        ∙ cond-false (ltb (q % (2 ^ i + 2 ^ i)) (2 ^ i)) (Combine op ty (front b) (behind b) (front b) ∷ [])
        (Combine op ty (behind b) (front b) (front b) ∷ []) (le-ltb _ _ half))) (inl refl)) refl
        ∙ (ap (λ x. combined op ty x (read_of (lock_step f given (suc (suc (suc (i + i)))) (lowest e q)) (front b))) (exchange_brings i q h low)
        ∙ ap (combined op ty (read_of (lock_step f given (suc (suc (i + i))) (lowest e (across q (2 ^ i)))) (front b))) (exchange_kept i q h low))

    -- after i exchanges a corner holds the rows of its block
    pub block_holds : (i m a x : ℕ) → i ≤ d → a ≡ m * 2 ^ i → x < 2 ^ i → a + 2 ^ i ≤ 2 ^ d
        → held_at (suc (suc (i + i))) (lowest e (a + x)) ≡ part a (a + 2 ^ i)
    block_holds zero m a x h begins near in1 =
        ap (λ q. held_at 2 (lowest e q)) (let z : a + x ≡ a = omega arith in z)
        ∙ (pair_holds a (omega arith) ∙ ap (part a) (let z : suc a ≡ a + 2 ^ 0 = omega arith in z))
    block_holds (suc i) m a x h begins near in1 =
        ap (λ j. held_at j (lowest e (a + x))) (let z : suc (suc (suc i + suc i)) ≡ suc (suc (suc (suc (i + i)))) = omega arith in z)
        ∙ (go (pow_pos i) (λ k c y g t l. block_holds i k c y (omega arith) g t l) (cases_lt x (2 ^ i))
        ∙ ap (part a) (let z : a + 2 ^ i + 2 ^ i ≡ a + 2 ^ suc i = omega (arith, pow_twice i) in z))
      where
        whole_block : a ≡ m * (2 ^ i + 2 ^ i)
        whole_block = begins ∙ ap (λ t. m * t) (pow_twice i)

        first_half : a ≡ (m + m) * 2 ^ i
        first_half = let z : a ≡ m * (2 ^ i + 2 ^ i) = whole_block in omega arith

        second_half : a + 2 ^ i ≡ suc (m + m) * 2 ^ i
        second_half = let z : a ≡ m * (2 ^ i + 2 ^ i) = whole_block in omega arith

        inside : a + 2 ^ i + 2 ^ i ≤ 2 ^ d
        inside = omega (arith, pow_twice i)

        go : 0 < 2 ^ i → ((k c y : ℕ) → c ≡ k * 2 ^ i → y < 2 ^ i → c + 2 ^ i ≤ 2 ^ d
            → held_at (suc (suc (i + i))) (lowest e (c + y)) ≡ part c (c + 2 ^ i)) → (x < 2 ^ i) ⊎ (2 ^ i ≤ x)
            → held_at (suc (suc (suc (suc (i + i))))) (lowest e (a + x)) ≡ part a (a + 2 ^ i + 2 ^ i)
        go pos more (inl y) =
            let rest : (a + x) % (2 ^ i + 2 ^ i) ≡ x = ap (λ t. (t + x) % (2 ^ i + 2 ^ i)) whole_block ∙ side_low m (2 ^ i) x y in
            let t : a + 2 ^ i + 2 ^ i ≤ 2 ^ d = inside in
            joins_behind i (a + x) (omega arith) (omega arith) (omega arith)
            ∙ (ap (λ l. combined op ty l (held_at (suc (suc (i + i))) (lowest e (across (a + x) (2 ^ i))))) (more (m + m) a x first_half y (omega arith))
            ∙ (ap (combined op ty (part a (a + 2 ^ i)))
            (ap (λ q. held_at (suc (suc (i + i))) (lowest e q)) (across_up m (2 ^ i) a x whole_block y) ∙ more (suc (m + m)) (a + 2 ^ i) x second_half y t)
            ∙ part_join a (a + 2 ^ i) (a + 2 ^ i + 2 ^ i) (omega arith) (omega arith) t))
        go pos more (inr y) =
            let l : x - 2 ^ i < 2 ^ i = omega (arith, pow_twice i) in
            let z : a + x ≡ a + 2 ^ i + (x - 2 ^ i) = omega arith in
            ap (λ q. held_at (suc (suc (suc (suc (i + i))))) (lowest e q)) z ∙ upper l
          where
            upper : x - 2 ^ i < 2 ^ i → held_at (suc (suc (suc (suc (i + i))))) (lowest e (a + 2 ^ i + (x - 2 ^ i))) ≡ part a (a + 2 ^ i + 2 ^ i)
            upper l =
                let rest : (a + 2 ^ i + (x - 2 ^ i)) % (2 ^ i + 2 ^ i) ≡ 2 ^ i + (x - 2 ^ i) =
                ap (λ t. t % (2 ^ i + 2 ^ i))
                (let v : a + 2 ^ i + (x - 2 ^ i) ≡ m * (2 ^ i + 2 ^ i) + (2 ^ i + (x - 2 ^ i)) = omega (arith, whole_block) in v)
                ∙ side_high m (2 ^ i) (x - 2 ^ i) l in
                let t : a + 2 ^ i + 2 ^ i ≤ 2 ^ d = inside in
                joins_before i (a + 2 ^ i + (x - 2 ^ i)) (omega arith) (omega arith) (omega arith)
                ∙ (ap (λ c. combined op ty c (held_at (suc (suc (i + i))) (lowest e (a + 2 ^ i + (x - 2 ^ i)))))
                (ap (λ q. held_at (suc (suc (i + i))) (lowest e q)) (across_down m (2 ^ i) a (x - 2 ^ i) whole_block l)
                ∙ more (m + m) a (x - 2 ^ i) first_half l (omega arith))
                ∙ (ap (combined op ty (part a (a + 2 ^ i))) (more (suc (m + m)) (a + 2 ^ i) (x - 2 ^ i) second_half l t)
                ∙ part_join a (a + 2 ^ i) (a + 2 ^ i + 2 ^ i) (omega arith) (omega arith) t))

    lead_holds : (r : ℕ) → r < n → Leads (fold_part e r) → held_at (suc (suc (d + d))) r ≡ span op ty given 0 n
    lead_holds r hr lead =
        ap (held_at (suc (suc (d + d)))) (sym (ap (lowest e) (let z : 0 + corner e r ≡ corner e r = omega arith in z) ∙ lowest-corner e r lead))
        ∙ (block_holds d 0 0 (corner e r) (omega arith) (omega arith) (corner_in e (2 ^ d) r room (omega arith)) (omega arith)
        ∙ (ap (λ k. span op ty given k (lowest e (0 + 2 ^ d) - k)) lowest_first
        ∙ ap (span op ty given 0) (let z : lowest e (0 + 2 ^ d) - 0 ≡ n = omega (arith, lowest_last) in z)))

    -- in the end each member holds all rows' combination
    pub all_hold : (r : ℕ) → r < n → read_of (lock_step f given (suc (suc (suc (d + d)))) r) (front b) ≡ span op ty given 0 n
    all_hold r hr = go (fold_part e r) refl (fold_part_is e r)
      where
        kept : (o : FoldPart) → fold_part e r ≡ o → Leads o
            → AllByRecursion (λ a. AllApart (writes a) (front b ∷ [])) (tells b r o)
            → read_of (lock_step f given (suc (suc (suc (d + d)))) r) (front b) ≡ span op ty given 0 n
        kept o h k quiet =
            round_kept n f lawful given laid (suc (suc (d + d))) r (front b) hr (front_in r hr)
            (subst (AllByRecursion (λ a. AllApart (writes a) (front b ∷ []))) (sym (tells_at r o h)) quiet)
            ∙ lead_holds r hr (leads r o h k)

        go : (o : FoldPart) → fold_part e r ≡ o → FoldPartIs e r (corner e r) o
            → read_of (lock_step f given (suc (suc (suc (d + d)))) r) (front b) ≡ span op ty given 0 n
        go Lower h k = kept Lower h tt (tt, tt)
        go Alone h k = kept Alone h tt tt
        go Upper h (is_upper x y) =
            let lower : fold_part e (r - 1) ≡ Lower =
            ap (fold_part e) (let z : r - 1 ≡ corner e r + corner e r = omega arith in z) ∙ fold_part_lower e (corner e r) x in
            round_held n f lawful given laid (suc (suc (d + d))) r (Recv (r - 1) (front b)) (front b) hr
            (subst (λ xs. Has xs (Recv (r - 1) (front b))) (sym (tells_at r Upper h)) (inl refl)) refl
            ∙ (message_is n f lawful given laid (suc (suc (d + d))) r (r - 1) (front b) (omega arith)
            (subst (λ xs. Has xs (Send r (front b))) (sym (tells_at (r - 1) Lower lower))
            (inl (ap (λ p. Send p (front b)) (let z : r - 1 + 1 ≡ r = omega arith in z))))
            ∙ lead_holds (r - 1) (omega arith) (leads (r - 1) Lower lower tt))
