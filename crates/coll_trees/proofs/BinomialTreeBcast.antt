-- the family of bcast, by a binomial tree
use Rattle.std.proofs.Common.{◌≡◌, ℕ, ◌+◌, ◌^◌, ◌<◌, ◌≤◌, true, false, cond, eqb, ltb, List, length, None, refl, sym, ap, subst, ◌∙◌, arith, eq-eqb}
use Rattle.std.proofs.Common.{eqb-true, unwrap_or}
use Rattle.std.proofs.lemmas.Bool.{cond-true, cond_both, and_parts}
use Rattle.coll_kinds.specs.declared.signature.Signature.{Signature}
use Rattle.coll_kinds.specs.declared.kind.Kind.TheVariants.{Bcast}
use Rattle.coll_kinds.specs.declared.operation.Op.TheVariants.{Sum}
use Rattle.coll_kinds.specs.Common.{block_len, row_len, given_by, given_len, got_by, needs_of, needs, has_root, broken}
use Rattle.coll_ops.specs.Values.{row_of, value_by, value}
use Rattle.coll_ops.specs.Contributions.{AreGiven}
use Rattle.coll_sched.specs.declared.region.Region.{Region}
use Rattle.coll_sched.specs.declared.action.Action.{Action}
use Rattle.coll_sched.specs.Common.{Parts, Inside, read_of, front, nothing, actions_at, lock_step, result_at, Heard, IsLawful}
use Rattle.coll_sched.proofs.Rounds.{GivenFits}
use Rattle.coll_sched.proofs.Builders.{input_held}
use Rattle.coll_trees.specs.Columns.{rounds_of}
use Rattle.coll_trees.specs.Depths.{depth}
use Rattle.coll_trees.specs.BinomialTreeBcast.{from_root, bcast_tree_at, bcast_tree_rounds}
use Rattle.coll_trees.specs.Trees.{bcast_family, IsNarrowFor}
use Rattle.coll_trees.proofs.Checked.{checked, root_low}
use Rattle.coll_trees.proofs.Columns.{round-column, length-rounds, lawful_family, narrow_family, few_exchanges}
use Rattle.coll_trees.proofs.Depths.{depth_reaches}
use Rattle.coll_trees.proofs.RootNumbers.{from_root_is, number_low}
use Rattle.coll_trees.proofs.BinomialTreeBcastRounds.{bcast_tree_columns, length-bcast_tree_rounds, bcast_tree_rounds-at, bcast_tree_costs}
use Rattle.coll_trees.proofs.BinomialTreeBcastRounds.{bcast_tree_hears, bcast_tree_holds}

module _ (sig : Signature) (n : ℕ) (kind : sig.kind ≡ Bcast) (low : sig.root < n) (top : n ≤ 64) where
  input_in : (r : ℕ) → Inside (block_len sig) (cond (eqb r sig.root) (front (block_len sig)) nothing)
  input_in r = cond_both (eqb r sig.root) (front (block_len sig)) nothing (Inside (block_len sig)) (λ e. omega arith) (λ e. omega arith)

  bcast_lawful : IsLawful n (bcast_family sig n)
  bcast_lawful =
      lawful_family n (block_len sig) (λ r. cond (eqb r sig.root) (front (block_len sig)) nothing) (λ r. front (block_len sig))
      (bcast_tree_rounds (block_len sig) n sig.root 0 (depth n))
      (λ r h. input_in r) (λ r h. omega arith) (bcast_tree_columns (block_len sig) n sig.root low (block_len sig) (omega arith) 0 (depth n))

  bcast_rounds : (i r : ℕ) → i < depth n → actions_at (bcast_family sig n) (0 + i) r ≡ bcast_tree_at (block_len sig) n sig.root (2 ^ i) r
  bcast_rounds i r h =
      ap (λ j. actions_at (bcast_family sig n) j r) (let z : 0 + i ≡ i = omega arith in z)
      ∙ (round-column (bcast_tree_rounds (block_len sig) n sig.root 0 (depth n)) i r
      ∙ ap (λ column. column r)
      (bcast_tree_rounds-at (block_len sig) n sig.root 0 (depth n) i h
      ∙ ap (λ e. bcast_tree_at (block_len sig) n sig.root (2 ^ e)) (let z : 0 + i ≡ i = omega arith in z)))

  bcast_length : (r : ℕ) → length (bcast_family sig n r).rounds ≡ 0 + depth n
  bcast_length r =
      length-rounds (bcast_tree_rounds (block_len sig) n sig.root 0 (depth n)) r
      ∙ (length-bcast_tree_rounds (block_len sig) n sig.root 0 (depth n) ∙ (let z : depth n ≡ 0 + depth n = omega arith in z))

  near : (r : ℕ) → r < n → from_root n sig.root r < 2 ^ depth n
  near r h =
      let v : from_root n sig.root r < n = number_low n sig.root r (from_root n sig.root r) h (from_root_is n sig.root r low) in
      let enough : n ≤ 2 ^ depth n = depth_reaches n top in
      omega arith

  takes : (r : ℕ) → (cond (eqb r sig.root) (front (block_len sig)) nothing).len ≡ given_len sig n r
  takes r = elim (eqb r sig.root) as (λ t. (cond t (front (block_len sig)) nothing).len ≡ cond t (block_len sig) 0) [ true ↦ refl | false ↦ refl ]
      ∙ sym (ap (λ k. given_by k sig.root n r (block_len sig) (row_len sig)) kind)

  module _ (given : List (List ℕ)) (are : AreGiven sig n given) where
    laid : GivenFits n (bcast_family sig n) (row_of given)
    laid r h = are.long r h ∙ sym (takes r)

    begins : read_of (lock_step (bcast_family sig n) (row_of given) 0 sig.root) (front (block_len sig)) ≡ row_of given sig.root
    begins =
        ap (read_of (lock_step (bcast_family sig n) (row_of given) 0 sig.root))
        (sym (cond-true (eqb sig.root sig.root) (front (block_len sig)) nothing (eq-eqb sig.root sig.root refl)))
        ∙ input_held n (bcast_family sig n) bcast_lawful (row_of given) laid sig.root low

    bcast_value : (r : ℕ) → r < n → result_at (bcast_family sig n) (row_of given) r ≡ value sig given r
    bcast_value r h =
        ap (λ j. read_of (lock_step (bcast_family sig n) (row_of given) j r) (front (block_len sig))) (bcast_length r)
        ∙ (bcast_tree_holds (bcast_family sig n) (block_len sig) n sig.root 0 (depth n) low bcast_rounds bcast_lawful
        (row_of given) laid (λ p k. omega arith) (row_of given sig.root) begins (depth n) r (omega arith) h (near r h)
        ∙ sym (ap (λ k. value_by k (unwrap_or sig.op Sum) sig.ty (block_len sig) sig.root given r) kind))

  bcast_hears : (r p : ℕ) → r < n → needs sig n r p ≡ true → Heard (bcast_family sig n) (length (bcast_family sig n r).rounds) r p
  bcast_hears r p h need =
      let parts = and_parts (ltb p n) (needs_of sig.kind sig.root r p) need in
      let same : p ≡ sig.root = eqb-true p sig.root (sym (ap (λ k. needs_of k sig.root r p) kind) ∙ parts.1) in
      subst (λ j. Heard (bcast_family sig n) j r p) (sym (bcast_length r))
      (bcast_tree_hears (bcast_family sig n) (block_len sig) n sig.root 0 (depth n) low bcast_rounds p same (depth n) r (omega arith) h (near r h))

  bcast_tree : IsNarrowFor sig n (bcast_family sig n) (depth n)
  bcast_tree = record {
    serves = record {
      lawful = bcast_lawful;
      takes_given = λ r h. takes r;
      gives_got = λ r h. sym (ap (λ k. got_by k sig.root n r (block_len sig) (row_len sig)) kind);
      has_value = λ given are bytes r h. bcast_value given are r h;
      hears = bcast_hears;
    };
    narrow = narrow_family n (block_len sig) (λ r. cond (eqb r sig.root) (front (block_len sig)) nothing)
        (λ r. front (block_len sig)) (bcast_tree_rounds (block_len sig) n sig.root 0 (depth n))
        (bcast_tree_columns (block_len sig) n sig.root low (block_len sig) (omega arith) 0 (depth n));
    few = few_exchanges n (block_len sig) (λ r. cond (eqb r sig.root) (front (block_len sig)) nothing)
        (λ r. front (block_len sig)) (bcast_tree_rounds (block_len sig) n sig.root 0 (depth n)) (depth n)
        (bcast_tree_costs (block_len sig) n sig.root 0 (depth n));
  }

-- the family of bcast serves each checked bcast
pub bcast_serves : (sig : Signature) (n : ℕ) → broken sig n ≡ None → sig.kind ≡ Bcast → n ≤ 64 → IsNarrowFor sig n (bcast_family sig n) (depth n)
bcast_serves sig n h kind top = bcast_tree sig n kind (root_low sig n (checked sig n h) (ap has_root kind)) top

-- the parts that the builder makes are the family's
pub bcast_parts : (sig : Signature) (n r size : ℕ) (input output : Region) (rounds : List (List Action)) → size ≡ block_len sig
    → input ≡ cond (eqb r sig.root) (front size) nothing → output ≡ front size
    → rounds ≡ rounds_of (bcast_tree_rounds size n sig.root 0 (depth n)) r
    → ◌≡◌ {A = Parts} (record { size = size; input = input; output = output; rounds = rounds }) (bcast_family sig n r)
bcast_parts sig n r size input output rounds e i o s =
    let i2 : input ≡ cond (eqb r sig.root) (front (block_len sig)) nothing = i ∙ ap (λ l. cond (eqb r sig.root) (front l) nothing) e in
    let o2 : output ≡ front (block_len sig) = o ∙ ap front e in
    let s2 : rounds ≡ rounds_of (bcast_tree_rounds (block_len sig) n sig.root 0 (depth n)) r =
    s ∙ ap (λ l. rounds_of (bcast_tree_rounds l n sig.root 0 (depth n)) r) e in
    λ k. record { size = e k; input = i2 k; output = o2 k; rounds = s2 k }
