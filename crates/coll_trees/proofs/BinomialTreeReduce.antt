-- the family of reduce, by a binomial tree
use Rattle.std.proofs.Common.{◌≡◌, ℕ, suc, ◌+◌, ◌<◌, ◌≤◌, ◌⊎◌, inl, inr, cond, eqb, true, false, eq-eqb, ne_eqb, eqb-true, ltb, List, [], ◌∷◌, ◌++◌}
use Rattle.std.proofs.Common.{length, Some, None, IsTrue, refl, sym, ap, subst, ◌∙◌, arith, unwrap_or, ltb-true, length-append}
use Rattle.std.proofs.lemmas.Bool.{and_parts, or_cases, cases_eq, cond-true, cond-false, cond_both}
use Rattle.std.specs.List.{AllByRecursion, list_any}
use Rattle.coll_kinds.specs.declared.signature.Signature.{Signature}
use Rattle.coll_kinds.specs.declared.kind.Kind.TheVariants.{Reduce}
use Rattle.coll_kinds.specs.declared.operation.Op.{Op}
use Rattle.coll_kinds.specs.declared.operation.Op.TheVariants.{Sum}
use Rattle.coll_kinds.specs.Common.{block_len, row_len, given_by, given_len, got_by, got_len, needs_of, needs, allowed, has_root, has_operation}
use Rattle.coll_kinds.specs.Common.{broken, AreBytes}
use Rattle.coll_ops.specs.Combinations.{combination}
use Rattle.coll_ops.specs.Values.{row_of, value_by, value}
use Rattle.coll_ops.specs.Contributions.{AreGiven}
use Rattle.coll_ops.specs.Laws.{IsRow}
use Rattle.coll_sched.specs.declared.region.Region.{Region}
use Rattle.coll_sched.specs.declared.action.Action.{Action}
use Rattle.coll_sched.specs.declared.action.Action.TheVariants.{Send, Recv}
use Rattle.coll_sched.specs.Common.{AllApart, writes, Parts, has_peer, Inside, read_of, front, nothing, actions_at, lock_step, result_at, Receives}
use Rattle.coll_sched.specs.Common.{Heard, IsLawful, family_exchanges}
use Rattle.coll_sched.proofs.Rounds.{GivenFits}
use Rattle.coll_sched.proofs.Track.{heard_self}
use Rattle.coll_sched.proofs.Builders.{Has, round_held, round_kept, message_is, input_held}
use Rattle.coll_trees.specs.Columns.{Column, rounds_of}
use Rattle.coll_trees.specs.Depths.{depth, direct_bound}
use Rattle.coll_trees.specs.BinomialTreeReduce.{reduce_tree_rounds, last_hop}
use Rattle.coll_trees.specs.Trees.{reduce_family, IsNarrowFor}
use Rattle.coll_trees.proofs.Checked.{checked, root_low, operation_allowed, block_whole, IsRow-block}
use Rattle.coll_trees.proofs.Columns.{IsColumn, column_of, all_append, round-column, rounds-append, length-rounds, lawful_family, narrow_family}
use Rattle.coll_trees.proofs.Columns.{few_exchanges, costs_append, free, exchange, local_round}
use Rattle.coll_trees.proofs.BinomialTreeReduceRounds.{reduce_tree_columns, reduce_tree_costs, length-reduce_tree_rounds}
use Rattle.coll_trees.proofs.BinomialTreeReduceFirst.{later, first_hears, first_holds}
use Rattle.coll_trees.proofs.BinomialTreeReduceHop.{hop-none, hop-sends, hop-gets, hop_column}

module _ (sig : Signature) (n : ℕ) (kind : sig.kind ≡ Reduce) (low : sig.root < n) (top : n ≤ 64) (may : IsTrue (allowed (unwrap_or sig.op Sum) sig.ty)) where
  reduce_columns : AllByRecursion (IsColumn n (block_len sig + block_len sig))
      (reduce_tree_rounds (unwrap_or sig.op Sum) sig.ty (block_len sig) n 0 (depth n) ++ (last_hop (block_len sig) sig.root ∷ []))
  reduce_columns =
      all_append (IsColumn n (block_len sig + block_len sig))
      (reduce_tree_rounds (unwrap_or sig.op Sum) sig.ty (block_len sig) n 0 (depth n)) (last_hop (block_len sig) sig.root ∷ [])
      (reduce_tree_columns (unwrap_or sig.op Sum) sig.ty (block_len sig) (block_whole sig) may n 0 (depth n))
      (hop_column (block_len sig) n sig.root low (block_len sig + block_len sig) (omega arith), tt)

  output_in : (r : ℕ) → Inside (block_len sig + block_len sig) (cond (eqb r sig.root) (front (block_len sig)) nothing)
  output_in r = cond_both (eqb r sig.root) (front (block_len sig)) nothing (Inside (block_len sig + block_len sig)) (λ e. omega arith) (λ e. omega arith)

  reduce_lawful : IsLawful n (reduce_family sig n)
  reduce_lawful =
      lawful_family n (block_len sig + block_len sig) (λ r. front (block_len sig))
      (λ r. cond (eqb r sig.root) (front (block_len sig)) nothing)
      (reduce_tree_rounds (unwrap_or sig.op Sum) sig.ty (block_len sig) n 0 (depth n) ++ (last_hop (block_len sig) sig.root ∷ []))
      (λ r h. omega arith) (λ r h. output_in r) reduce_columns

  is_at : (j r : ℕ) → actions_at (reduce_family sig n) j r
      ≡ column_of (reduce_tree_rounds (unwrap_or sig.op Sum) sig.ty (block_len sig) n 0 (depth n) ++ (last_hop (block_len sig) sig.root ∷ [])) j r
  is_at j r = round-column (reduce_tree_rounds (unwrap_or sig.op Sum) sig.ty (block_len sig) n 0 (depth n) ++ (last_hop (block_len sig) sig.root ∷ [])) j r

  reduce_length : (r : ℕ) → length (reduce_family sig n r).rounds ≡ suc (depth n + depth n)
  reduce_length r =
      length-rounds (reduce_tree_rounds (unwrap_or sig.op Sum) sig.ty (block_len sig) n 0 (depth n) ++ (last_hop (block_len sig) sig.root ∷ [])) r
      ∙ omega (
        arith,
        length-append {A = Column} (reduce_tree_rounds (unwrap_or sig.op Sum) sig.ty (block_len sig) n 0 (depth n))
            (last_hop (block_len sig) sig.root ∷ []),
        length-reduce_tree_rounds (unwrap_or sig.op Sum) sig.ty (block_len sig) n 0 (depth n),
      )

  last_acts : (r : ℕ) → actions_at (reduce_family sig n) (depth n + depth n) r ≡ last_hop (block_len sig) sig.root r
  last_acts r =
      ap (λ j. actions_at (reduce_family sig n) j r) (let z : depth n + depth n ≡ depth n + depth n + 0 = omega arith in z)
      ∙ later (unwrap_or sig.op Sum) sig.ty (block_len sig) n (reduce_family sig n) (last_hop (block_len sig) sig.root ∷ []) is_at 0 r

  takes : (r : ℕ) → block_len sig ≡ given_len sig n r
  takes r = sym (ap (λ k. given_by k sig.root n r (block_len sig) (row_len sig)) kind)

  gives : (r : ℕ) → (cond (eqb r sig.root) (front (block_len sig)) nothing).len ≡ got_len sig n r
  gives r = elim (eqb r sig.root) as (λ t. (cond t (front (block_len sig)) nothing).len ≡ cond t (block_len sig) 0) [ true ↦ refl | false ↦ refl ]
      ∙ sym (ap (λ k. got_by k sig.root n r (block_len sig) (row_len sig)) kind)

  module _ (given : List (List ℕ)) (are : AreGiven sig n given) (bytes : (r : ℕ) → r < n → AreBytes (row_of given r)) where
    laid : GivenFits n (reduce_family sig n) (row_of given)
    laid r h = are.long r h ∙ sym (takes r)

    rows : (p : ℕ) → p < n → IsRow sig.ty (row_of given p) × (length (row_of given p) ≡ block_len sig)
    rows p h = (IsRow-block sig (row_of given p) (laid p h) (bytes p h), laid p h)

    folded : read_of (lock_step (reduce_family sig n) (row_of given) (depth n + depth n) 0) (front (block_len sig))
        ≡ combination (unwrap_or sig.op Sum) sig.ty given
    folded =
        first_holds (unwrap_or sig.op Sum) sig.ty (block_len sig) n (reduce_family sig n)
        (last_hop (block_len sig) sig.root ∷ []) is_at (omega arith) top reduce_lawful may given are.each laid rows (λ r h. omega arith)
        (λ r h. input_held n (reduce_family sig n) reduce_lawful (row_of given) laid r h)

    at_root : read_of (lock_step (reduce_family sig n) (row_of given) (suc (depth n + depth n)) sig.root) (front (block_len sig))
        ≡ combination (unwrap_or sig.op Sum) sig.ty given
    at_root = go (cases_eq sig.root 0)
      where
        go : (sig.root ≡ 0) ⊎ (sig.root ≡ 0 → ⊥)
            → read_of (lock_step (reduce_family sig n) (row_of given) (suc (depth n + depth n)) sig.root) (front (block_len sig))
            ≡ combination (unwrap_or sig.op Sum) sig.ty given
        go (inl e) =
            round_kept n (reduce_family sig n) reduce_lawful (row_of given) laid (depth n + depth n) sig.root (front (block_len sig)) low (omega arith)
            (subst (AllByRecursion (λ a. AllApart (writes a) (front (block_len sig) ∷ [])))
            (sym (last_acts sig.root ∙ hop-none (block_len sig) sig.root sig.root e)) tt)
            ∙ (ap (λ q. read_of (lock_step (reduce_family sig n) (row_of given) (depth n + depth n) q) (front (block_len sig))) e ∙ folded)
        go (inr d) =
            round_held n (reduce_family sig n) reduce_lawful (row_of given) laid (depth n + depth n) sig.root
            (Recv 0 (front (block_len sig))) (front (block_len sig)) low
            (subst (λ xs. Has xs (Recv 0 (front (block_len sig)))) (sym (last_acts sig.root ∙ hop-gets (block_len sig) sig.root sig.root d d refl)) (inl refl))
            refl
            ∙ (message_is n (reduce_family sig n) reduce_lawful (row_of given) laid (depth n + depth n) sig.root 0 (front (block_len sig)) (omega arith)
            (subst (λ xs. Has xs (Send sig.root (front (block_len sig)))) (sym (last_acts 0 ∙ hop-sends (block_len sig) sig.root 0 d refl)) (inl refl))
            ∙ folded)

    reduce_value : (r : ℕ) → r < n → result_at (reduce_family sig n) (row_of given) r ≡ value sig given r
    reduce_value r h =
        ap (λ j. read_of (lock_step (reduce_family sig n) (row_of given) j r) (cond (eqb r sig.root) (front (block_len sig)) nothing)) (reduce_length r)
        ∙ (go (cases_eq r sig.root) ∙ sym (ap (λ k. value_by k (unwrap_or sig.op Sum) sig.ty (block_len sig) sig.root given r) kind))
      where
        go : (r ≡ sig.root) ⊎ (r ≡ sig.root → ⊥)
            → read_of (lock_step (reduce_family sig n) (row_of given) (suc (depth n + depth n)) r) (cond (eqb r sig.root) (front (block_len sig)) nothing)
            ≡ cond (eqb r sig.root) (combination (unwrap_or sig.op Sum) sig.ty given) []
        go (inl e) =
            ap (read_of (lock_step (reduce_family sig n) (row_of given) (suc (depth n + depth n)) r))
            (cond-true (eqb r sig.root) (front (block_len sig)) nothing (eq-eqb r sig.root e))
            ∙ (ap (λ q. read_of (lock_step (reduce_family sig n) (row_of given) (suc (depth n + depth n)) q) (front (block_len sig))) e
            ∙ (at_root ∙ sym (cond-true (eqb r sig.root) (combination (unwrap_or sig.op Sum) sig.ty given) [] (eq-eqb r sig.root e))))
        go (inr d) =
            ap (read_of (lock_step (reduce_family sig n) (row_of given) (suc (depth n + depth n)) r))
            (cond-false (eqb r sig.root) (front (block_len sig)) nothing (ne_eqb r sig.root d))
            ∙ sym (cond-false (eqb r sig.root) (combination (unwrap_or sig.op Sum) sig.ty given) [] (ne_eqb r sig.root d))

  root_hears : (p : ℕ) → p < n → Heard (reduce_family sig n) (suc (depth n + depth n)) sig.root p
  root_hears p h =
      go (cases_eq sig.root 0)
      (first_hears (unwrap_or sig.op Sum) sig.ty (block_len sig) n (reduce_family sig n) (last_hop (block_len sig) sig.root ∷ []) is_at top p h)
    where
      go : (sig.root ≡ 0) ⊎ (sig.root ≡ 0 → ⊥) → Heard (reduce_family sig n) (depth n + depth n) 0 p
          → Heard (reduce_family sig n) (suc (depth n + depth n)) sig.root p
      go (inl e) k = inl (subst (λ q. Heard (reduce_family sig n) (depth n + depth n) q p) (sym e) k)
      go (inr d) k = inr (0, subst (λ xs. Receives xs 0) (sym (last_acts sig.root ∙ hop-gets (block_len sig) sig.root sig.root d d refl)) (inl refl), k)

  reduce_hears : (r p : ℕ) → r < n → needs sig n r p ≡ true → Heard (reduce_family sig n) (length (reduce_family sig n r).rounds) r p
  reduce_hears r p h need =
      let parts = and_parts (ltb p n) (needs_of sig.kind sig.root r p) need in
      subst (λ j. Heard (reduce_family sig n) j r p) (sym (reduce_length r))
      (go (ltb-true p n parts.0) (or_cases (eqb r sig.root) (eqb p r) (sym (ap (λ k. needs_of k sig.root r p) kind) ∙ parts.1)))
    where
      go : p < n → (eqb r sig.root ≡ true) ⊎ (eqb p r ≡ true) → Heard (reduce_family sig n) (suc (depth n + depth n)) r p
      go l (inl e) = subst (λ q. Heard (reduce_family sig n) (suc (depth n + depth n)) q p) (sym (eqb-true r sig.root e)) (root_hears p l)
      go l (inr e) =
          subst (λ q. Heard (reduce_family sig n) (suc (depth n + depth n)) r q) (sym (eqb-true p r e))
          (heard_self (reduce_family sig n) (suc (depth n + depth n)) r)

  reduce_tree : IsNarrowFor sig n (reduce_family sig n) (depth n + 1)
  reduce_tree = record {
    serves = record {
      lawful = reduce_lawful;
      takes_given = λ r h. takes r;
      gives_got = λ r h. gives r;
      has_value = reduce_value;
      hears = reduce_hears;
    };
    narrow = narrow_family n (block_len sig + block_len sig) (λ r. front (block_len sig))
        (λ r. cond (eqb r sig.root) (front (block_len sig)) nothing)
        (reduce_tree_rounds (unwrap_or sig.op Sum) sig.ty (block_len sig) n 0 (depth n) ++ (last_hop (block_len sig) sig.root ∷ [])) reduce_columns;
    few = few_exchanges n (block_len sig + block_len sig) (λ r. front (block_len sig))
        (λ r. cond (eqb r sig.root) (front (block_len sig)) nothing)
        (reduce_tree_rounds (unwrap_or sig.op Sum) sig.ty (block_len sig) n 0 (depth n) ++ (last_hop (block_len sig) sig.root ∷ [])) (depth n + 1)
        (costs_append (reduce_tree_rounds (unwrap_or sig.op Sum) sig.ty (block_len sig) n 0 (depth n))
        (last_hop (block_len sig) sig.root ∷ []) (depth n) 1 (depth n + 1) refl
        (reduce_tree_costs (unwrap_or sig.op Sum) sig.ty (block_len sig) (block_whole sig) may n 0 (depth n)) (exchange free));
  }

-- the one member of a reduce is the root, and has nobody to send to
lone_hop : (b root r : ℕ) → root < 1 → last_hop b root r ≡ []
lone_hop b root r low = cond-true (eqb root 0) [] _ (eq-eqb root 0 (omega arith))

lone_reduce : (sig : Signature) → sig.root < 1 → family_exchanges 1 (reduce_family sig 1) ≤ depth 1 + 0
unfolding depth
lone_reduce sig low =
    few_exchanges 1 (block_len sig + block_len sig) (λ r. front (block_len sig))
    (λ r. cond (eqb r sig.root) (front (block_len sig)) nothing) (last_hop (block_len sig) sig.root ∷ []) 0
    (local_round (λ r. ap (list_any has_peer) (lone_hop (block_len sig) sig.root r low)) free)

reduce_few : (sig : Signature) (n : ℕ) → sig.root < n → family_exchanges n (reduce_family sig n) ≤ depth n + 1
    → family_exchanges n (reduce_family sig n) ≤ depth n + direct_bound n
reduce_few sig n low few = go (cases_eq n 1)
  where
    go : (n ≡ 1) ⊎ (n ≡ 1 → ⊥) → family_exchanges n (reduce_family sig n) ≤ depth n + direct_bound n
    go (inl e) = subst (λ m. family_exchanges m (reduce_family sig m) ≤ depth m + direct_bound m) (sym e) (lone_reduce sig (omega arith))
    go (inr d) = subst (λ m. family_exchanges n (reduce_family sig n) ≤ depth n + m) (sym (cond-false (eqb n 1) 0 1 (ne_eqb n 1 d))) few

-- the family of reduce serves each checked reduce; a single member has no exchange
pub reduce_serves : (sig : Signature) (n : ℕ) → broken sig n ≡ None → sig.kind ≡ Reduce → n ≤ 64
    → IsNarrowFor sig n (reduce_family sig n) (depth n + direct_bound n)
reduce_serves sig n h kind top =
    let low : sig.root < n = root_low sig n (checked sig n h) (ap has_root kind) in
    let tree = reduce_tree sig n kind low top (operation_allowed sig n (checked sig n h) (ap has_operation kind)) in
    record {
      serves = tree.serves;
      narrow = tree.narrow;
      few = reduce_few sig n low tree.few;
    }

-- the parts that the builder makes are the family's
pub reduce_parts : (sig : Signature) (n r len : ℕ) (op : Op) (output : Region) (rounds : List (List Action))
    → len ≡ block_len sig → sig.op ≡ Some op → output ≡ cond (eqb r sig.root) (front len) nothing
    → rounds ≡ rounds_of (reduce_tree_rounds op sig.ty len n 0 (depth n)) r ++ (last_hop len sig.root r ∷ [])
    → ◌≡◌ {A = Parts} (record { size = len + len; input = front len; output = output; rounds = rounds }) (reduce_family sig n r)
reduce_parts sig n r len op output rounds e o g s =
    let op_is : op ≡ unwrap_or sig.op Sum = sym (ap (λ x. unwrap_or x Sum) o) in
    let o2 : output ≡ cond (eqb r sig.root) (front (block_len sig)) nothing = g ∙ ap (λ l. cond (eqb r sig.root) (front l) nothing) e in
    let s2 : rounds ≡ rounds_of (reduce_tree_rounds (unwrap_or sig.op Sum) sig.ty (block_len sig) n 0 (depth n) ++ (last_hop (block_len sig) sig.root ∷ [])) r =
    s ∙ (ap (λ l. rounds_of (reduce_tree_rounds op sig.ty l n 0 (depth n)) r ++ (last_hop l sig.root r ∷ [])) e
    ∙ (ap (λ x. rounds_of (reduce_tree_rounds x sig.ty (block_len sig) n 0 (depth n)) r ++ (last_hop (block_len sig) sig.root r ∷ [])) op_is
    ∙ sym (rounds-append (reduce_tree_rounds (unwrap_or sig.op Sum) sig.ty (block_len sig) n 0 (depth n)) (last_hop (block_len sig) sig.root ∷ []) r))) in
    λ k. record { size = e k + e k; input = front (e k); output = o2 k; rounds = s2 k }
