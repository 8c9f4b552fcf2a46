-- the family of allreduce, by recursive doubling
use Rattle.std.proofs.Common.{◌≡◌, ℕ, suc, ◌+◌, ◌-◌, ◌*◌, ◌/◌, ◌^◌, ◌<◌, ◌≤◌, true, eqb, ltb, List, [], ◌∷◌, length, Some, None, IsTrue, sym, ap, subst, ◌∙◌}
use Rattle.std.proofs.Common.{arith, slice_get, unwrap_or, eqb-true, ltb-true, length-append}
use Rattle.std.proofs.lemmas.Bool.{and_parts, cond_both}
use Rattle.std.specs.List.{AllByRecursion}
use Rattle.coll_kinds.specs.declared.datatype.Datatype.{Datatype}
use Rattle.coll_kinds.specs.declared.signature.Signature.{Signature}
use Rattle.coll_kinds.specs.declared.kind.Kind.TheVariants.{Allreduce}
use Rattle.coll_kinds.specs.declared.operation.Op.{Op}
use Rattle.coll_kinds.specs.declared.operation.Op.TheVariants.{Sum}
use Rattle.coll_kinds.specs.Common.{AreBytes, block_len, row_len, given_by, given_len, got_by, needs_of, needs, allowed, has_operation, broken}
use Rattle.coll_ops.specs.Combinations.{combined, combination}
use Rattle.coll_ops.specs.Values.{row_of, value_by, value}
use Rattle.coll_ops.specs.Contributions.{AreGiven}
use Rattle.coll_ops.specs.Laws.{IsRow}
use Rattle.coll_sched.specs.declared.action.Action.{Action}
use Rattle.coll_sched.specs.declared.action.Action.TheVariants.{Combine}
use Rattle.coll_sched.specs.declared.region.Region.{Region}
use Rattle.coll_sched.specs.Served.{listing}
use Rattle.coll_sched.specs.Common.{Parts, read_of, front, actions_at, lock_step, result_at, Heard, IsLawful, family_exchanges}
use Rattle.coll_sched.proofs.Rounds.{GivenFits}
use Rattle.coll_sched.proofs.Builders.{Has, input_held}
use Rattle.coll_trees.specs.Columns.{Column, rounds_of}
use Rattle.coll_trees.specs.Trees.{IsNarrowFor}
use Rattle.coll_trees.proofs.Checked.{checked, operation_allowed, block_whole, IsRow-block}
use Rattle.coll_trees.proofs.Columns.{IsColumn, Costs, column_of, round-column, length-rounds, lawful_family, narrow_family, few_exchanges}
use Rattle.coll_trees.proofs.Spans.{span, span_all, associates}
use Rattle.coll_plans.specs.RecursiveDoublingHypercube.{corner, dimension, extra, lowest}
use Rattle.coll_plans.specs.RecursiveDoubling.{tell, hypercube_rounds, recursive_doubling, allreduce_family, most_trades}
use Rattle.coll_plans.proofs.RecursiveDoublingHypercube.{extra_below, extra_whole}
use Rattle.coll_plans.proofs.RecursiveDoublingRounds.{length-hypercube_rounds, exchanging_columns, even_costs, exchanging_costs}
use Rattle.coll_plans.proofs.RecursiveDoublingRanges.{all_heard, all_hold}
use Rattle.coll_plans.proofs.RecursiveDoublingJoins.{combining_round, has_at, joins_block}
use Rattle.coll_plans.specs.Joins.{AreRows, CombinesNothing, JoinsRows}
use Rattle.coll_plans.specs.Plans.{family, family_by}

module _ (sig : Signature) (n : ℕ) (kind : sig.kind ≡ Allreduce) (pos : 0 < n) (top : n ≤ 64) (may : IsTrue (allowed (unwrap_or sig.op Sum) sig.ty)) where
  abbrev op : Op
  op = unwrap_or sig.op Sum

  abbrev b : ℕ
  b = block_len sig

  abbrev d : ℕ
  d = dimension n

  abbrev columns : List Column
  columns = recursive_doubling op sig.ty b (extra n) d

  few_extra : extra n ≤ 2 ^ d
  few_extra = let z : extra n < 2 ^ d = extra_below n pos top in omega arith

  allreduce_columns : AllByRecursion (IsColumn n (b + b)) columns
  allreduce_columns = exchanging_columns op sig.ty b (block_whole sig) may n (extra n) d few_extra (extra_whole n pos)

  allreduce_lawful : IsLawful n (allreduce_family sig n)
  allreduce_lawful = lawful_family n (b + b) (λ r. front b) (λ r. front b) columns (λ r h. omega arith) (λ r h. omega arith) allreduce_columns

  is_at : (j r : ℕ) → actions_at (allreduce_family sig n) j r ≡ column_of columns j r
  is_at j r = round-column columns j r

  allreduce_length : (r : ℕ) → length (allreduce_family sig n r).rounds ≡ suc (suc (suc (d + d)))
  allreduce_length r =
      length-rounds columns r
      ∙ omega (
        arith,
        length-append {A = Column} (hypercube_rounds op sig.ty b (extra n) 0 d) (tell b (extra n) ∷ []),
        length-hypercube_rounds op sig.ty b (extra n) 0 d,
      )

  takes : (r : ℕ) → b ≡ given_len sig n r
  takes r = sym (ap (λ k. given_by k sig.root n r b (row_len sig)) kind)

  module _ (given : List (List ℕ)) (are : AreGiven sig n given) (bytes : (r : ℕ) → r < n → AreBytes (row_of given r)) where
    laid : GivenFits n (allreduce_family sig n) (row_of given)
    laid r h = are.long r h ∙ sym (takes r)

    rows : (p : ℕ) → p < n → IsRow sig.ty (row_of given p) × (length (row_of given p) ≡ b)
    rows p h = (IsRow-block sig (row_of given p) (laid p h) (bytes p h), laid p h)

    allreduce_value : (r : ℕ) → r < n → result_at (allreduce_family sig n) (row_of given) r ≡ value sig given r
    allreduce_value r h =
        ap (λ j. read_of (lock_step (allreduce_family sig n) (row_of given) j r) (front b)) (allreduce_length r)
        ∙ (all_hold (allreduce_family sig n) op sig.ty b n (extra n) d few_extra (extra_whole n pos) is_at allreduce_lawful
        (associates op sig.ty may) (row_of given) laid rows (λ p k. omega arith)
        (λ p k. input_held n (allreduce_family sig n) allreduce_lawful (row_of given) laid p k) r h
        ∙ (ap (span op sig.ty (row_of given) 0) (sym are.each)
        ∙ (span_all op sig.ty given
        ∙ sym (ap (λ k. value_by k op sig.ty b sig.root given r) kind))))

  allreduce_hears : (r p : ℕ) → r < n → needs sig n r p ≡ true → Heard (allreduce_family sig n) (length (allreduce_family sig n r).rounds) r p
  allreduce_hears r p h need =
      let parts = and_parts (ltb p n) (needs_of sig.kind sig.root r p) need in
      subst (λ j. Heard (allreduce_family sig n) j r p) (sym (allreduce_length r))
      (all_heard (allreduce_family sig n) op sig.ty b n (extra n) d few_extra (extra_whole n pos) is_at r p h (ltb-true p n parts.0))

  -- what members combine, whatever rows there are
  pub allreduce_joins : (i r first count : ℕ) → i ≤ d → r < n
      → first ≡ lowest (extra n) (corner (extra n) r / 2 ^ i * 2 ^ i)
      → first + count ≡ lowest (extra n) (corner (extra n) r / 2 ^ i * 2 ^ i + 2 ^ i)
      → (given : ℕ → List ℕ) (index : ℕ) (o : Op) (t : Datatype) (left right into : Region)
      → AreRows sig n given
      → slice_get (actions_at (allreduce_family sig n) (suc (i + i)) r) index ≡ Some (Combine o t left right into)
      → combined o t (read_of (lock_step (allreduce_family sig n) given (suc (i + i)) r) left)
      (read_of (lock_step (allreduce_family sig n) given (suc (i + i)) r) right)
      ≡ combination o t (listing given first count)
  allreduce_joins i r first count low h first_is end_is given index o t left right into are at =
      joins_block (allreduce_family sig n) op sig.ty b n (extra n) d few_extra (extra_whole n pos) is_at allreduce_lawful
      (associates op sig.ty may) given laid rows (λ p k. omega arith)
      (λ p k. input_held n (allreduce_family sig n) allreduce_lawful given laid p k)
      i r o t left right into low h (has_at (actions_at (allreduce_family sig n) (suc (i + i)) r) index (Combine o t left right into) at)
      ∙ (λ z. combination o t (listing given (sym first_is z) (count_is z)))
    where
      laid : GivenFits n (allreduce_family sig n) given
      laid p k = (are p k).0 ∙ sym (takes p)

      rows : (p : ℕ) → p < n → IsRow sig.ty (given p) × (length (given p) ≡ b)
      rows p k = (IsRow-block sig (given p) (laid p k) (are p k).1, laid p k)

      count_is : lowest (extra n) (corner (extra n) r / 2 ^ i * 2 ^ i + 2 ^ i) - lowest (extra n) (corner (extra n) r / 2 ^ i * 2 ^ i) ≡ count
      count_is = omega (arith, first_is, end_is)

  -- a hypercube of all members has no pairs
  allreduce_costs : family_exchanges n (allreduce_family sig n) ≤ most_trades n
  allreduce_costs = cond_both (eqb n (2 ^ d)) d (d + 2) (λ k. family_exchanges n (allreduce_family sig n) ≤ k)
      (λ e. few_exchanges n (b + b) (λ r. front b) (λ r. front b) columns d (even (eqb-true n (2 ^ d) e)))
      (λ e. few_exchanges n (b + b) (λ r. front b) (λ r. front b) columns (d + 2) (exchanging_costs op sig.ty b (extra n) d))
    where
      even : n ≡ 2 ^ dimension n → Costs columns (dimension n)
      even e = subst (λ k. Costs (recursive_doubling op sig.ty b k (dimension n)) (dimension n))
          (let z : 0 ≡ n - 2 ^ dimension n = omega arith in z) (even_costs op sig.ty b (dimension n))

  allreduce_narrow : IsNarrowFor sig n (allreduce_family sig n) (most_trades n)
  allreduce_narrow = record {
    serves = record {
      lawful = allreduce_lawful;
      takes_given = λ r h. takes r;
      gives_got = λ r h. sym (ap (λ k. got_by k sig.root n r b (row_len sig)) kind);
      has_value = allreduce_value;
      hears = allreduce_hears;
    };
    narrow = narrow_family n (b + b) (λ r. front b) (λ r. front b) columns allreduce_columns;
    few = allreduce_costs;
  }

-- the family of allreduce serves each checked allreduce
pub allreduce_serves : (sig : Signature) (n : ℕ) → broken sig n ≡ None → sig.kind ≡ Allreduce → 0 < n → n ≤ 64
    → IsNarrowFor sig n (allreduce_family sig n) (most_trades n)
allreduce_serves sig n h kind pos top = allreduce_narrow sig n kind pos top (operation_allowed sig n (checked sig n h) (ap has_operation kind))

-- and a round's combinations join the rows of a block of corners
pub joins_rows : (sig : Signature) (n r i j first count : ℕ) → broken sig n ≡ None → sig.kind ≡ Allreduce → r < n → n ≤ 64
    → i ≤ dimension n → j ≡ suc (i + i)
    → first ≡ lowest (extra n) (corner (extra n) r / 2 ^ i * 2 ^ i)
    → first + count ≡ lowest (extra n) (corner (extra n) r / 2 ^ i * 2 ^ i + 2 ^ i)
    → JoinsRows sig n r j first count
unfolding family
joins_rows sig n r i j first count rules kind hr top low round first_is end_is given index o t left right into are at =
    let same : family sig n ≡ allreduce_family sig n = ap (λ k. family_by k sig n) kind in
    let may = operation_allowed sig n (checked sig n rules) (ap has_operation kind) in
    let there : slice_get (actions_at (allreduce_family sig n) (suc (i + i)) r) index ≡ Some (Combine o t left right into) =
    (λ z. slice_get (actions_at (sym same z) (sym round z) r) index) ∙ at in
    (λ z. combined o t (read_of (lock_step (same z) given (round z) r) left) (read_of (lock_step (same z) given (round z) r) right))
    ∙ allreduce_joins sig n kind (omega arith) top may i r first count low hr first_is end_is given index o t left right into are there

-- none combines in any other round
pub combines_nothing : (sig : Signature) (n r j : ℕ) → sig.kind ≡ Allreduce → ((i : ℕ) → i ≤ dimension n → j ≡ suc (i + i) → ⊥) → CombinesNothing sig n r j
unfolding family
combines_nothing sig n r j kind none index o t left right into at =
    let op : Op = unwrap_or sig.op Sum in
    let columns : List Column = recursive_doubling op sig.ty (block_len sig) (extra n) (dimension n) in
    let is : actions_at (family sig n) j r ≡ column_of columns j r = ap (λ k. actions_at (family_by k sig n) j r) kind ∙ round-column columns j r in
    let found = combining_round (block_len sig) o t left right into op sig.ty (extra n) (dimension n) j r
    (subst (λ xs. Has xs (Combine o t left right into)) is (has_at (actions_at (family sig n) j r) index (Combine o t left right into) at)) in
    none found.0 found.1 found.2

-- the parts that the builder makes are the family's
pub allreduce_parts : (sig : Signature) (n r len e d : ℕ) (op : Op) (rounds : List (List Action)) → len ≡ block_len sig
    → sig.op ≡ Some op → e ≡ extra n → d ≡ dimension n → rounds ≡ rounds_of (recursive_doubling op sig.ty len e d) r
    → ◌≡◌ {A = Parts} (record { size = len + len; input = front len; output = front len; rounds = rounds }) (allreduce_family sig n r)
allreduce_parts sig n r len e d op rounds l o x y s =
    let op_is : op ≡ unwrap_or sig.op Sum = sym (ap (λ z. unwrap_or z Sum) o) in
    let s2 : rounds ≡ rounds_of (recursive_doubling (unwrap_or sig.op Sum) sig.ty (block_len sig) (extra n) (dimension n)) r =
    s ∙ (ap (λ z. rounds_of (recursive_doubling op sig.ty z e d) r) l ∙ (ap (λ z. rounds_of (recursive_doubling z sig.ty (block_len sig) e d) r) op_is
    ∙ (ap (λ z. rounds_of (recursive_doubling (unwrap_or sig.op Sum) sig.ty (block_len sig) z d) r) x
    ∙ ap (λ z. rounds_of (recursive_doubling (unwrap_or sig.op Sum) sig.ty (block_len sig) (extra n) z) r) y))) in
    λ k. record { size = l k + l k; input = front (l k); output = front (l k); rounds = s2 k }
