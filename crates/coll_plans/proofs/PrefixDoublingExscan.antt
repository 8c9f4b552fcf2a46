-- the family of exscan, by prefix doubling
use Rattle.std.proofs.Common.{◌≡◌, ◌≢◌, ℕ, zero, suc, ◌+◌, ◌-◌, ◌%◌, ◌^◌, ◌<◌, ◌≤◌, ◌⊎◌, inl, inr, Bool, true, false, min, cond, eqb, ltb, leb, List}
use Rattle.std.proofs.Common.{[], ◌∷◌, length, take, Some, None, IsTrue, refl, sym, ap, subst, ◌∙◌, arith, unwrap_or, eq-eqb, ne_eqb, le-leb}
use Rattle.std.proofs.Common.{ltb-true, pow-suc, pow_pos}
use Rattle.std.proofs.lemmas.Bool.{and_parts, cases_eq, cases_lt, cond-true, cond-false, cond_both, lt-leb}
use Rattle.std.specs.List.{AllByRecursion}
use Rattle.coll_kinds.specs.declared.signature.Signature.{Signature}
use Rattle.coll_kinds.specs.declared.kind.Kind.TheVariants.{Exscan}
use Rattle.coll_kinds.specs.declared.operation.Op.{Op}
use Rattle.coll_kinds.specs.declared.operation.Op.TheVariants.{Sum}
use Rattle.coll_kinds.specs.declared.datatype.Datatype.{Datatype}
use Rattle.coll_kinds.specs.Common.{width, AreBytes, block_len, row_len, given_by, given_len, got_by, got_len, needs_of, needs, allowed, has_operation, broken}
use Rattle.coll_ops.specs.Combinations.{combined, combination}
use Rattle.coll_ops.specs.Values.{row_of, value_by, value}
use Rattle.coll_ops.specs.Contributions.{AreGiven}
use Rattle.coll_ops.specs.Laws.{IsRow}
use Rattle.coll_sched.specs.declared.region.Region.{Region}
use Rattle.coll_sched.specs.declared.action.Action.{Action}
use Rattle.coll_sched.specs.declared.action.Action.TheVariants.{Copy, Combine}
use Rattle.coll_sched.specs.Common.{Parts, IsRound, Inside, read_of, front, behind, nothing, actions_at, lock_step, result_at, Heard, IsLawful}
use Rattle.coll_sched.proofs.Rounds.{GivenFits}
use Rattle.coll_sched.proofs.Builders.{Has, round_held, input_held}
use Rattle.coll_trees.specs.Columns.{Column, rounds_of}
use Rattle.coll_trees.specs.Depths.{depth}
use Rattle.coll_trees.specs.Trees.{IsNarrowFor}
use Rattle.coll_trees.proofs.Checked.{checked, operation_allowed, block_whole, IsRow-block}
use Rattle.coll_trees.proofs.Columns.{IsColumn, IsLocalColumn, round-column, length-rounds, lawful_family, narrow_family, few_exchanges}
use Rattle.coll_trees.proofs.Depths.{depth_reaches}
use Rattle.coll_trees.proofs.Spans.{span, Associates, associates, span_join}
use Rattle.coll_plans.specs.PrefixDoubling.{third, shift, collect, join_both, doubling, exscan_family}
use Rattle.coll_plans.proofs.LocalRounds.{AreLocal, local_column, is_local_column}
use Rattle.coll_plans.proofs.PrefixDoublingRounds.{length-doubling, shift_at, join_at, doubling_columns, doubling_costs, range_heard, range_holds}
use Rattle.coll_plans.proofs.PrefixDoublingRounds.{came, shift_kept, step_kept, span_first}

-- the second round of a step, by whether it is the first step and whether the member has received
abbrev collect_by : Op → Datatype → ℕ → Bool → Action
collect_by op ty b v = cond v (Copy (behind b) (third b)) (Combine op ty (behind b) (third b) (third b))

abbrev join_by : Op → Datatype → ℕ → Bool → Bool → List Action
join_by op ty b u v = cond u (collect_by op ty b v ∷ Combine op ty (behind b) (front b) (front b) ∷ []) []

join_round : (op : Op) (ty : Datatype) (b : ℕ) (u v : Bool) → b % width ty ≡ 0 → IsTrue (allowed op ty) → IsRound (b + b + b) (join_by op ty b u v)
join_round op ty b true true fit may = record {
  fits = ((omega arith, omega arith, refl), ((omega arith, omega arith, omega arith, refl, refl, may, fit), tt));
  follows = (
    (
      record {
        in_order = omega arith;
        other_peer = tt;
        read_later = (((λ k x y z w. omega arith), ((λ k x y z w. omega arith), tt)), tt);
        read_before = (((λ k x y z w. omega arith), tt), tt);
        both_written = (((λ k x y z w. omega arith), tt), tt);
      },
      tt,
    ),
    (tt, tt),
  );
}
join_round op ty b true false fit may = record {
  fits = ((omega arith, omega arith, omega arith, refl, refl, may, fit), ((omega arith, omega arith, omega arith, refl, refl, may, fit), tt));
  follows = (
    (
      record {
        in_order = omega arith;
        other_peer = tt;
        read_later = (((λ k x y z w. omega arith), ((λ k x y z w. omega arith), tt)), tt);
        read_before = (((λ k x y z w. omega arith), ((λ k x y z w. omega arith), tt)), tt);
        both_written = (((λ k x y z w. omega arith), tt), tt);
      },
      tt,
    ),
    (tt, tt),
  );
}
join_round op ty b false v fit may = record { fits = tt; follows = tt }

join_local : (op : Op) (ty : Datatype) (b : ℕ) (u v : Bool) → AreLocal (join_by op ty b u v)
join_local op ty b true true = (tt, (tt, tt))
join_local op ty b true false = (tt, (tt, tt))
join_local op ty b false v = tt

join_column : (op : Op) (ty : Datatype) (b n : ℕ) → b % width ty ≡ 0 → IsTrue (allowed op ty) → (s : ℕ) → IsColumn n (b + b + b) (join_both op ty b s)
join_column op ty b n fit may s =
    local_column n (b + b + b) (join_both op ty b s) (λ r. join_local op ty b (leb s r) (eqb s 1)) (λ r low. join_round op ty b (leb s r) (eqb s 1) fit may)

join-free : (op : Op) (ty : Datatype) (b s : ℕ) → IsLocalColumn (join_both op ty b s)
join-free op ty b s = is_local_column (join_both op ty b s) (λ r. join_local op ty b (leb s r) (eqb s 1))

-- the member received, or did not
join-some : (op : Op) (ty : Datatype) (b s r : ℕ) → s ≤ r → join_both op ty b s r ≡ collect op ty b s ∷ Combine op ty (behind b) (front b) (front b) ∷ []
join-some op ty b s r h = ap (λ u. join_by op ty b u (eqb s 1)) (le-leb s r h)

join-none : (op : Op) (ty : Datatype) (b s r : ℕ) → r < s → join_both op ty b s r ≡ []
join-none op ty b s r h = ap (λ u. join_by op ty b u (eqb s 1)) (lt-leb s r h)

-- the first step copies, a later one combines
collect-later : (op : Op) (ty : Datatype) (b s : ℕ) → s ≢ 1 → collect op ty b s ≡ Combine op ty (behind b) (third b) (third b)
collect-later op ty b s h = ap (collect_by op ty b) (ne_eqb s 1 h)

module _ (sig : Signature) (n : ℕ) (kind : sig.kind ≡ Exscan) (top : n ≤ 64) (may : IsTrue (allowed (unwrap_or sig.op Sum) sig.ty)) where
  abbrev op : Op
  op = unwrap_or sig.op Sum

  abbrev b : ℕ
  b = block_len sig

  abbrev columns : List Column
  columns = doubling b n (join_both op sig.ty b) 0 (depth n)

  abbrev output : ℕ → Region
  output r = cond (eqb r 0) nothing (third b)

  exscan_columns : AllByRecursion (IsColumn n (b + b + b)) columns
  exscan_columns = doubling_columns b n (join_both op sig.ty b) (b + b + b) (omega arith) (join_column op sig.ty b n (block_whole sig) may) 0 (depth n)

  output_in : (r : ℕ) → Inside (b + b + b) (output r)
  output_in r = cond_both (eqb r 0) nothing (third b) (Inside (b + b + b)) (λ e. omega arith) (λ e. omega arith)

  exscan_lawful : IsLawful n (exscan_family sig n)
  exscan_lawful = lawful_family n (b + b + b) (λ r. front b) output columns (λ r h. omega arith) (λ r h. output_in r) exscan_columns

  exscan_length : (r : ℕ) → length (exscan_family sig n r).rounds ≡ depth n + depth n
  exscan_length r = length-rounds columns r ∙ length-doubling b n (join_both op sig.ty b) 0 (depth n)

  moved : (i r : ℕ) → i < depth n → actions_at (exscan_family sig n) (i + i) r ≡ shift b n (2 ^ i) r
  moved i r h = round-column columns (i + i) r ∙ shift_at b n (join_both op sig.ty b) (depth n) i r h

  then_joined : (i r : ℕ) → i < depth n → actions_at (exscan_family sig n) (suc (i + i)) r ≡ join_both op sig.ty b (2 ^ i) r
  then_joined i r h = round-column columns (suc (i + i)) r ∙ join_at b n (join_both op sig.ty b) (depth n) i r h

  joined : (i r : ℕ) → i < depth n → 2 ^ i ≤ r
      → actions_at (exscan_family sig n) (suc (i + i)) r ≡ collect op sig.ty b (2 ^ i) ∷ Combine op sig.ty (behind b) (front b) (front b) ∷ []
  joined i r low near = then_joined i r low ∙ join-some op sig.ty b (2 ^ i) r near

  rested : (i r : ℕ) → i < depth n → r < 2 ^ i → actions_at (exscan_family sig n) (suc (i + i)) r ≡ []
  rested i r low near = then_joined i r low ∙ join-none op sig.ty b (2 ^ i) r near

  also_joined : (i r : ℕ) → i < depth n → 2 ^ i ≤ r → Has (actions_at (exscan_family sig n) (suc (i + i)) r) (Combine op sig.ty (behind b) (front b) (front b))
  also_joined i r low near = subst (λ xs. Has xs (Combine op sig.ty (behind b) (front b) (front b))) (sym (joined i r low near)) (inr (inl refl))

  takes : (r : ℕ) → b ≡ given_len sig n r
  takes r = sym (ap (λ k. given_by k sig.root n r b (row_len sig)) kind)

  gives : (r : ℕ) → (output r).len ≡ got_len sig n r
  gives r = elim (eqb r 0) as (λ t. (cond t nothing (third b)).len ≡ cond t 0 b) [ true ↦ refl | false ↦ refl ]
      ∙ sym (ap (λ k. got_by k sig.root n r b (row_len sig)) kind)

  module _ (given : List (List ℕ)) (are : AreGiven sig n given) (bytes : (r : ℕ) → r < n → AreBytes (row_of given r)) where
    abbrev holding : ℕ → ℕ → Region → List ℕ
    holding j r g = read_of (lock_step (exscan_family sig n) (row_of given) j r) g

    abbrev rows_at : ℕ → ℕ → List ℕ
    rows_at k c = span op sig.ty (row_of given) k c

    laid : GivenFits n (exscan_family sig n) (row_of given)
    laid r h = are.long r h ∙ sym (takes r)

    rows : (p : ℕ) → p < n → IsRow sig.ty (row_of given p) × (length (row_of given p) ≡ b)
    rows p h = (IsRow-block sig (row_of given p) (laid p h) (bytes p h), laid p h)

    assoc : Associates op sig.ty
    assoc = associates op sig.ty may

    begins : (r : ℕ) → r < n → holding 0 r (front b) ≡ row_of given r
    begins r h = input_held n (exscan_family sig n) exscan_lawful (row_of given) laid r h

    -- what comes in step i is what the member that far below holds: the rows that end with its own
    comes : (i r : ℕ) → i < depth n → r < n → 2 ^ i ≤ r
        → holding (suc (i + i)) r (behind b) ≡ rows_at (suc (r - 2 ^ i) - min (2 ^ i) (suc (r - 2 ^ i))) (min (2 ^ i) (suc (r - 2 ^ i)))
    comes i r low h near =
        came (exscan_family sig n) b n (depth n) moved exscan_lawful op sig.ty assoc (row_of given) laid rows
        (λ p k. omega arith) begins also_joined rested i r low h near
        ∙ range_holds (exscan_family sig n) b n (depth n) moved exscan_lawful op sig.ty assoc (row_of given) laid rows
        (λ p k. omega arith) begins also_joined rested i (r - 2 ^ i) (omega arith) (omega arith)

    same : {k l m t : ℕ} → k ≡ l → m ≡ t → rows_at k m ≡ rows_at l t
    same e g = λ x. rows_at (e x) (g x)

    -- after the first step the third block holds the row below, and after i steps the 2 ^ i - 1 rows before the member's own
    before_holds : (i r : ℕ) → suc i ≤ depth n → r < n → 0 < r
        → holding (suc i + suc i) r (third b) ≡ rows_at (r - min (2 ^ suc i - 1) r) (min (2 ^ suc i - 1) r)
    before_holds zero r low h pos =
        round_held n (exscan_family sig n) exscan_lawful (row_of given) laid 1 r (Copy (behind b) (third b)) (third b) h
        (subst (λ xs. Has xs (Copy (behind b) (third b))) (sym (joined 0 r (omega arith) (omega arith))) (inl refl)) refl
        ∙ (comes 0 r (omega arith) h (omega arith) ∙ same (omega arith) (omega arith))
    before_holds (suc i) r low h pos =
        ap (λ j. holding j r (third b)) (let k : suc (suc i) + suc (suc i) ≡ suc (suc (suc i + suc i)) = omega arith in k)
        ∙ go (pow_pos i) (before_holds i r (omega arith) h pos) (cases_lt r (2 ^ suc i))
      where
        go : 0 < 2 ^ i → holding (suc i + suc i) r (third b) ≡ rows_at (r - min (2 ^ suc i - 1) r) (min (2 ^ suc i - 1) r) → (r < 2 ^ suc i) ⊎ (2 ^ suc i ≤ r)
            → holding (suc (suc (suc i + suc i))) r (third b) ≡ rows_at (r - min (2 ^ suc (suc i) - 1) r) (min (2 ^ suc (suc i) - 1) r)
        go some so_far (inl x) =
            step_kept (exscan_family sig n) b n (depth n) moved exscan_lawful op sig.ty assoc (row_of given) laid rows
            (λ p k. omega arith) begins also_joined rested
            (suc i) r (third b) (omega arith) h x (omega arith) (λ k y z v w. omega arith)
            ∙ (so_far ∙ same (omega (arith, pow-suc 2 (suc i))) (omega (arith, pow-suc 2 (suc i))))
        go some so_far (inr x) =
            let d : 2 ^ suc i ≢ 1 = omega (arith, pow-suc 2 i) in
            round_held n (exscan_family sig n) exscan_lawful (row_of given) laid (suc (suc i + suc i)) r
            (Combine op sig.ty (behind b) (third b) (third b)) (third b) h
            (subst (λ xs. Has xs (Combine op sig.ty (behind b) (third b) (third b))) (sym (joined (suc i) r (omega arith) x))
            (inl (collect-later op sig.ty b (2 ^ suc i) d))) refl
            ∙ (ap (λ l. combined op sig.ty l (holding (suc (suc i + suc i)) r (third b))) (comes (suc i) r (omega arith) h x)
            ∙ (ap (combined op sig.ty (rows_at (suc (r - 2 ^ suc i) - min (2 ^ suc i) (suc (r - 2 ^ suc i))) (min (2 ^ suc i) (suc (r - 2 ^ suc i)))))
            (shift_kept (exscan_family sig n) b n (depth n) moved exscan_lawful op sig.ty assoc (row_of given) laid rows
            (λ p k. omega arith) begins also_joined rested
            (suc i) r (third b) (omega arith) h (omega arith) (λ k y z v w. omega arith)
            ∙ (so_far ∙ same (let k : r - min (2 ^ suc i - 1) r
            ≡ suc (r - 2 ^ suc i) - min (2 ^ suc i) (suc (r - 2 ^ suc i)) + min (2 ^ suc i) (suc (r - 2 ^ suc i)) = omega arith in k)
            (let k : min (2 ^ suc i - 1) r ≡ 2 ^ suc i - 1 = omega arith in k)))
            ∙ (span_join op sig.ty b n assoc (row_of given) rows (suc (r - 2 ^ suc i) - min (2 ^ suc i) (suc (r - 2 ^ suc i)))
            (min (2 ^ suc i) (suc (r - 2 ^ suc i))) (2 ^ suc i - 1) (min (2 ^ suc i) (suc (r - 2 ^ suc i)) + (2 ^ suc i - 1))
            (omega arith) (omega (arith, pow-suc 2 i)) refl (omega arith)
            ∙ same (omega (arith, pow-suc 2 (suc i))) (omega (arith, pow-suc 2 (suc i))))))

    -- in the end it holds all rows before the member's own
    ends : (r : ℕ) → r < n → 0 < r → holding (depth n + depth n) r (third b) ≡ rows_at 0 r
    ends r h pos = go (depth n) refl
      where
        go : (d : ℕ) → depth n ≡ d → holding (depth n + depth n) r (third b) ≡ rows_at 0 r
        go zero e = let enough : n ≤ 2 ^ 0 = subst (λ k. n ≤ 2 ^ k) e (depth_reaches n top) in absurd (omega arith)
        go (suc d) e =
            let enough : n ≤ 2 ^ suc d = subst (λ k. n ≤ 2 ^ k) e (depth_reaches n top) in
            ap (λ j. holding (j + j) r (third b)) e ∙ (before_holds d r (omega arith) h pos ∙ same (omega arith) (omega arith))

    exscan_value : (r : ℕ) → r < n → result_at (exscan_family sig n) (row_of given) r ≡ value sig given r
    exscan_value r h =
        ap (λ j. holding j r (output r)) (exscan_length r)
        ∙ (go (cases_eq r 0) ∙ sym (ap (λ k. value_by k op sig.ty b sig.root given r) kind))
      where
        go : (r ≡ 0) ⊎ (r ≡ 0 → ⊥) → holding (depth n + depth n) r (output r) ≡ combination op sig.ty (take r given)
        go (inl e) =
            ap (holding (depth n + depth n) r) (cond-true (eqb r 0) nothing (third b) (eq-eqb r 0 e))
            ∙ sym (ap (λ k. combination op sig.ty (take k given)) e)
        go (inr d) =
            let each : length given ≡ n = are.each in
            ap (holding (depth n + depth n) r) (cond-false (eqb r 0) nothing (third b) (ne_eqb r 0 d))
            ∙ (ends r h (omega arith) ∙ span_first op sig.ty given r (omega arith))

  exscan_hears : (r p : ℕ) → r < n → needs sig n r p ≡ true → Heard (exscan_family sig n) (length (exscan_family sig n r).rounds) r p
  exscan_hears r p h need =
      let parts = and_parts (ltb p n) (needs_of sig.kind sig.root r p) need in
      let below : p < r = ltb-true p r (sym (ap (λ k. needs_of k sig.root r p) kind) ∙ parts.1) in
      let enough : n ≤ 2 ^ depth n = depth_reaches n top in
      subst (λ j. Heard (exscan_family sig n) j r p) (sym (exscan_length r))
      (range_heard (exscan_family sig n) b n (depth n) moved (depth n) r p (omega arith) (omega arith) (omega arith))

  exscan_narrow : IsNarrowFor sig n (exscan_family sig n) (depth n)
  exscan_narrow = record {
    serves = record {
      lawful = exscan_lawful;
      takes_given = λ r h. takes r;
      gives_got = λ r h. gives r;
      has_value = exscan_value;
      hears = exscan_hears;
    };
    narrow = narrow_family n (b + b + b) (λ r. front b) output columns exscan_columns;
    few = few_exchanges n (b + b + b) (λ r. front b) output columns (depth n)
        (doubling_costs b n (join_both op sig.ty b) (join-free op sig.ty b) 0 (depth n));
  }

-- the family of exscan serves each checked exscan
pub exscan_serves : (sig : Signature) (n : ℕ) → broken sig n ≡ None → sig.kind ≡ Exscan → n ≤ 64 → IsNarrowFor sig n (exscan_family sig n) (depth n)
exscan_serves sig n h kind top = exscan_narrow sig n kind top (operation_allowed sig n (checked sig n h) (ap has_operation kind))

-- the parts that the builder makes are the family's
pub exscan_parts : (sig : Signature) (n r len : ℕ) (op : Op) (output : Region) (rounds : List (List Action))
    → len ≡ block_len sig → sig.op ≡ Some op → output ≡ cond (eqb r 0) nothing (third len)
    → rounds ≡ rounds_of (doubling len n (join_both op sig.ty len) 0 (depth n)) r
    → ◌≡◌ {A = Parts} (record { size = len + len + len; input = front len; output = output; rounds = rounds }) (exscan_family sig n r)
exscan_parts sig n r len op output rounds e o g s =
    let op_is : op ≡ unwrap_or sig.op Sum = sym (ap (λ x. unwrap_or x Sum) o) in
    let o2 : output ≡ cond (eqb r 0) nothing (third (block_len sig)) = g ∙ ap (λ l. cond (eqb r 0) nothing (third l)) e in
    let s2 : rounds ≡ rounds_of (doubling (block_len sig) n (join_both (unwrap_or sig.op Sum) sig.ty (block_len sig)) 0 (depth n)) r =
    s ∙ (ap (λ l. rounds_of (doubling l n (join_both op sig.ty l) 0 (depth n)) r) e
    ∙ ap (λ x. rounds_of (doubling (block_len sig) n (join_both x sig.ty (block_len sig)) 0 (depth n)) r) op_is) in
    λ k. record { size = e k + e k + e k; input = front (e k); output = o2 k; rounds = s2 k }
