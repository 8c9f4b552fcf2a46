-- the family of an allreduce by two trees, which `plan` does not use
use Rattle.std.proofs.Common.{◌≡◌, ℕ, ◌+◌, ◌^◌, ◌<◌, ◌≤◌, true, ltb, List, ◌++◌, length, Some, None, IsTrue, refl, sym, ap, subst, ◌∙◌, arith}
use Rattle.std.proofs.Common.{unwrap_or, ltb-true, length-append}
use Rattle.std.proofs.lemmas.Bool.{and_parts}
use Rattle.std.specs.List.{AllByRecursion}
use Rattle.coll_kinds.specs.declared.signature.Signature.{Signature}
use Rattle.coll_kinds.specs.declared.kind.Kind.TheVariants.{Allreduce}
use Rattle.coll_kinds.specs.declared.operation.Op.{Op}
use Rattle.coll_kinds.specs.declared.operation.Op.TheVariants.{Sum}
use Rattle.coll_kinds.specs.Common.{block_len, row_len, given_by, given_len, got_by, needs_of, needs, allowed, has_operation, broken, AreBytes}
use Rattle.coll_ops.specs.Combinations.{combination}
use Rattle.coll_ops.specs.Values.{row_of, value_by, value}
use Rattle.coll_ops.specs.Contributions.{AreGiven}
use Rattle.coll_ops.specs.Laws.{IsRow}
use Rattle.coll_sched.specs.declared.action.Action.{Action}
use Rattle.coll_sched.specs.Common.{Parts, read_of, front, actions_at, lock_step, result_at, Heard, IsLawful}
use Rattle.coll_sched.proofs.Rounds.{GivenFits}
use Rattle.coll_sched.proofs.Builders.{input_held}
use Rattle.coll_trees.specs.Columns.{Column, rounds_of}
use Rattle.coll_trees.specs.Depths.{depth}
use Rattle.coll_trees.specs.BinomialTreeBcast.{from_root, bcast_tree_at, bcast_tree_rounds}
use Rattle.coll_trees.specs.BinomialTreeReduce.{reduce_tree_rounds}
use Rattle.coll_trees.specs.Trees.{allreduce_family, IsNarrowFor}
use Rattle.coll_trees.proofs.Checked.{checked, operation_allowed, block_whole, IsRow-block}
use Rattle.coll_trees.proofs.Columns.{IsColumn, column_of, all_append, round-column, rounds-append, length-rounds, lawful_family, narrow_family}
use Rattle.coll_trees.proofs.Columns.{few_exchanges, costs_append}
use Rattle.coll_trees.proofs.Depths.{depth_reaches}
use Rattle.coll_trees.proofs.RootNumbers.{from_root_is, number_low}
use Rattle.coll_trees.proofs.BinomialTreeBcastRounds.{bcast_tree_columns, length-bcast_tree_rounds, bcast_tree_rounds-at, bcast_tree_costs}
use Rattle.coll_trees.proofs.BinomialTreeBcastRounds.{bcast_tree_hears, bcast_tree_holds}
use Rattle.coll_trees.proofs.BinomialTreeReduceRounds.{reduce_tree_columns, reduce_tree_costs, length-reduce_tree_rounds}
use Rattle.coll_trees.proofs.BinomialTreeReduceFirst.{later, first_hears, first_holds}

module _ (sig : Signature) (n : ℕ) (kind : sig.kind ≡ Allreduce) (pos : 0 < n) (top : n ≤ 64) (may : IsTrue (allowed (unwrap_or sig.op Sum) sig.ty)) where
  allreduce_columns : AllByRecursion (IsColumn n (block_len sig + block_len sig))
      (reduce_tree_rounds (unwrap_or sig.op Sum) sig.ty (block_len sig) n 0 (depth n) ++ bcast_tree_rounds (block_len sig) n 0 0 (depth n))
  allreduce_columns =
      all_append (IsColumn n (block_len sig + block_len sig))
      (reduce_tree_rounds (unwrap_or sig.op Sum) sig.ty (block_len sig) n 0 (depth n)) (bcast_tree_rounds (block_len sig) n 0 0 (depth n))
      (reduce_tree_columns (unwrap_or sig.op Sum) sig.ty (block_len sig) (block_whole sig) may n 0 (depth n))
      (bcast_tree_columns (block_len sig) n 0 pos (block_len sig + block_len sig) (omega arith) 0 (depth n))

  allreduce_lawful : IsLawful n (allreduce_family sig n)
  allreduce_lawful =
      lawful_family n (block_len sig + block_len sig) (λ r. front (block_len sig)) (λ r. front (block_len sig))
      (reduce_tree_rounds (unwrap_or sig.op Sum) sig.ty (block_len sig) n 0 (depth n) ++ bcast_tree_rounds (block_len sig) n 0 0 (depth n))
      (λ r h. omega arith) (λ r h. omega arith) allreduce_columns

  is_at : (j r : ℕ) → actions_at (allreduce_family sig n) j r
      ≡ column_of (reduce_tree_rounds (unwrap_or sig.op Sum) sig.ty (block_len sig) n 0 (depth n) ++ bcast_tree_rounds (block_len sig) n 0 0 (depth n)) j r
  is_at j r = round-column
      (reduce_tree_rounds (unwrap_or sig.op Sum) sig.ty (block_len sig) n 0 (depth n) ++ bcast_tree_rounds (block_len sig) n 0 0 (depth n)) j r

  allreduce_length : (r : ℕ) → length (allreduce_family sig n r).rounds ≡ depth n + depth n + depth n
  allreduce_length r =
      length-rounds (reduce_tree_rounds (unwrap_or sig.op Sum) sig.ty (block_len sig) n 0 (depth n) ++ bcast_tree_rounds (block_len sig) n 0 0 (depth n)) r
      ∙ omega (
        arith,
        length-append {A = Column} (reduce_tree_rounds (unwrap_or sig.op Sum) sig.ty (block_len sig) n 0 (depth n))
            (bcast_tree_rounds (block_len sig) n 0 0 (depth n)),
        length-reduce_tree_rounds (unwrap_or sig.op Sum) sig.ty (block_len sig) n 0 (depth n),
        length-bcast_tree_rounds (block_len sig) n 0 0 (depth n),
      )

  then_bcast : (i r : ℕ) → i < depth n → actions_at (allreduce_family sig n) (depth n + depth n + i) r ≡ bcast_tree_at (block_len sig) n 0 (2 ^ i) r
  then_bcast i r h =
      later (unwrap_or sig.op Sum) sig.ty (block_len sig) n (allreduce_family sig n) (bcast_tree_rounds (block_len sig) n 0 0 (depth n)) is_at i r
      ∙ ap (λ (c : Column). c r)
      (bcast_tree_rounds-at (block_len sig) n 0 0 (depth n) i h
      ∙ ap (λ e. bcast_tree_at (block_len sig) n 0 (2 ^ e)) (let z : 0 + i ≡ i = omega arith in z))

  near : (r : ℕ) → r < n → from_root n 0 r < 2 ^ depth n
  near r h =
      let v : from_root n 0 r < n = number_low n 0 r (from_root n 0 r) h (from_root_is n 0 r pos) in
      let enough : n ≤ 2 ^ depth n = depth_reaches n top in
      omega arith

  takes : (r : ℕ) → block_len sig ≡ given_len sig n r
  takes r = sym (ap (λ k. given_by k sig.root n r (block_len sig) (row_len sig)) kind)

  module _ (given : List (List ℕ)) (are : AreGiven sig n given) (bytes : (r : ℕ) → r < n → AreBytes (row_of given r)) where
    laid : GivenFits n (allreduce_family sig n) (row_of given)
    laid r h = are.long r h ∙ sym (takes r)

    rows : (p : ℕ) → p < n → IsRow sig.ty (row_of given p) × (length (row_of given p) ≡ block_len sig)
    rows p h = (IsRow-block sig (row_of given p) (laid p h) (bytes p h), laid p h)

    folded : read_of (lock_step (allreduce_family sig n) (row_of given) (depth n + depth n) 0) (front (block_len sig))
        ≡ combination (unwrap_or sig.op Sum) sig.ty given
    folded =
        first_holds (unwrap_or sig.op Sum) sig.ty (block_len sig) n (allreduce_family sig n)
        (bcast_tree_rounds (block_len sig) n 0 0 (depth n)) is_at pos top allreduce_lawful may given are.each laid rows (λ r h. omega arith)
        (λ r h. input_held n (allreduce_family sig n) allreduce_lawful (row_of given) laid r h)

    allreduce_value : (r : ℕ) → r < n → result_at (allreduce_family sig n) (row_of given) r ≡ value sig given r
    allreduce_value r h =
        ap (λ j. read_of (lock_step (allreduce_family sig n) (row_of given) j r) (front (block_len sig))) (allreduce_length r)
        ∙ (bcast_tree_holds (allreduce_family sig n) (block_len sig) n 0 (depth n + depth n) (depth n) pos then_bcast
        allreduce_lawful (row_of given) laid (λ p k. omega arith) (combination (unwrap_or sig.op Sum) sig.ty given) folded
        (depth n) r (omega arith) h (near r h)
        ∙ sym (ap (λ k. value_by k (unwrap_or sig.op Sum) sig.ty (block_len sig) sig.root given r) kind))

  allreduce_hears : (r p : ℕ) → r < n → needs sig n r p ≡ true → Heard (allreduce_family sig n) (length (allreduce_family sig n r).rounds) r p
  allreduce_hears r p h need =
      let parts = and_parts (ltb p n) (needs_of sig.kind sig.root r p) need in
      subst (λ j. Heard (allreduce_family sig n) j r p) (sym (allreduce_length r))
      (bcast_tree_hears (allreduce_family sig n) (block_len sig) n 0 (depth n + depth n) (depth n) pos then_bcast p
      (first_hears (unwrap_or sig.op Sum) sig.ty (block_len sig) n (allreduce_family sig n)
      (bcast_tree_rounds (block_len sig) n 0 0 (depth n)) is_at top p (ltb-true p n parts.0))
      (depth n) r (omega arith) h (near r h))

  allreduce_tree : IsNarrowFor sig n (allreduce_family sig n) (depth n + depth n)
  allreduce_tree = record {
    serves = record {
      lawful = allreduce_lawful;
      takes_given = λ r h. takes r;
      gives_got = λ r h. sym (ap (λ k. got_by k sig.root n r (block_len sig) (row_len sig)) kind);
      has_value = allreduce_value;
      hears = allreduce_hears;
    };
    narrow = narrow_family n (block_len sig + block_len sig) (λ r. front (block_len sig)) (λ r. front (block_len sig))
        (reduce_tree_rounds (unwrap_or sig.op Sum) sig.ty (block_len sig) n 0 (depth n) ++ bcast_tree_rounds (block_len sig) n 0 0 (depth n)) allreduce_columns;
    few = few_exchanges n (block_len sig + block_len sig) (λ r. front (block_len sig)) (λ r. front (block_len sig))
        (reduce_tree_rounds (unwrap_or sig.op Sum) sig.ty (block_len sig) n 0 (depth n) ++ bcast_tree_rounds (block_len sig) n 0 0 (depth n))
        (depth n + depth n)
        (costs_append (reduce_tree_rounds (unwrap_or sig.op Sum) sig.ty (block_len sig) n 0 (depth n))
        (bcast_tree_rounds (block_len sig) n 0 0 (depth n)) (depth n) (depth n) (depth n + depth n) refl
        (reduce_tree_costs (unwrap_or sig.op Sum) sig.ty (block_len sig) (block_whole sig) may n 0 (depth n))
        (bcast_tree_costs (block_len sig) n 0 0 (depth n)));
  }

-- the family of allreduce serves each checked allreduce
pub allreduce_serves : (sig : Signature) (n : ℕ) → broken sig n ≡ None → sig.kind ≡ Allreduce → 0 < n → n ≤ 64
    → IsNarrowFor sig n (allreduce_family sig n) (depth n + depth n)
allreduce_serves sig n h kind pos top = allreduce_tree sig n kind pos top (operation_allowed sig n (checked sig n h) (ap has_operation kind))

-- the parts that the builder makes are the family's
pub allreduce_parts : (sig : Signature) (n r len : ℕ) (op : Op) (rounds : List (List Action)) → len ≡ block_len sig
    → sig.op ≡ Some op → rounds ≡ rounds_of (reduce_tree_rounds op sig.ty len n 0 (depth n)) r
    ++ rounds_of (bcast_tree_rounds len n 0 0 (depth n)) r
    → ◌≡◌ {A = Parts} (record { size = len + len; input = front len; output = front len; rounds = rounds }) (allreduce_family sig n r)
allreduce_parts sig n r len op rounds e o s =
    let op_is : op ≡ unwrap_or sig.op Sum = sym (ap (λ x. unwrap_or x Sum) o) in
    let s2 : rounds ≡ rounds_of (reduce_tree_rounds (unwrap_or sig.op Sum) sig.ty (block_len sig) n 0 (depth n)
    ++ bcast_tree_rounds (block_len sig) n 0 0 (depth n)) r =
    s ∙ (ap (λ l. rounds_of (reduce_tree_rounds op sig.ty l n 0 (depth n)) r ++ rounds_of (bcast_tree_rounds l n 0 0 (depth n)) r) e
    ∙ (ap (λ x. rounds_of (reduce_tree_rounds x sig.ty (block_len sig) n 0 (depth n)) r ++ rounds_of (bcast_tree_rounds (block_len sig) n 0 0 (depth n)) r)
    op_is
    ∙ sym (rounds-append (reduce_tree_rounds (unwrap_or sig.op Sum) sig.ty (block_len sig) n 0 (depth n))
    (bcast_tree_rounds (block_len sig) n 0 0 (depth n)) r))) in
    λ k. record { size = e k + e k; input = front (e k); output = front (e k); rounds = s2 k }
