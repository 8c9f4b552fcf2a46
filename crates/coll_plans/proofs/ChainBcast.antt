-- the family of a long bcast, along a chain
use Rattle.std.proofs.Common.{◌≡◌, ℕ, ◌+◌, ◌-◌, ◌<◌, ◌≤◌, inr, true, false, cond, eqb, ltb, leb, List, length, None, refl, sym, ap, subst, ◌∙◌, arith}
use Rattle.std.proofs.Common.{eq-eqb, eqb-true, lt-ltb, ltb-true, leb-true, unwrap_or}
use Rattle.std.proofs.lemmas.Bool.{cond-true, cond_both, and_parts}
use Rattle.coll_kinds.specs.declared.signature.Signature.{Signature}
use Rattle.coll_kinds.specs.declared.kind.Kind.TheVariants.{Bcast}
use Rattle.coll_kinds.specs.declared.operation.Op.TheVariants.{Sum}
use Rattle.coll_kinds.specs.Common.{block_len, row_len, given_by, given_len, got_by, needs_of, needs, has_root, broken}
use Rattle.coll_ops.specs.Values.{row_of, value_by, value}
use Rattle.coll_ops.specs.Contributions.{AreGiven}
use Rattle.coll_sched.specs.declared.region.Region.{Region}
use Rattle.coll_sched.specs.declared.action.Action.{Action}
use Rattle.coll_sched.specs.Common.{Parts, Inside, read_of, front, nothing, actions_at, lock_step, result_at, Heard, IsLawful}
use Rattle.coll_sched.proofs.Rounds.{GivenFits, length_lock_step}
use Rattle.coll_sched.proofs.Builders.{input_held}
use Rattle.coll_trees.specs.Columns.{Column, rounds_of}
use Rattle.coll_trees.specs.BinomialTreeBcast.{from_root, member_at}
use Rattle.coll_trees.specs.Trees.{IsNarrowFor}
use Rattle.coll_trees.proofs.Checked.{checked, root_low}
use Rattle.coll_trees.proofs.Columns.{round-column, length-rounds, lawful_family, narrow_family, few_exchanges}
use Rattle.coll_trees.proofs.RootNumbers.{from_root_is, number_low, member_at-from_root}
use Rattle.coll_plans.specs.ChainBcast.{segment, relay, relaying, relay_count, chain_family, is_long}
use Rattle.coll_plans.proofs.ChainSegments.{read_whole, same_segments}
use Rattle.coll_plans.proofs.ChainRounds.{relaying_columns, length-relaying, relaying-at, relaying_costs, relay_hears, relay_holds}

-- the root has number 0
member_at-root : (n root : ℕ) → root < n → member_at n root 0 ≡ root
member_at-root n root low = cond-true (ltb (0 + root) n) (0 + root) (0 + root - n) (lt-ltb (0 + root) n (omega arith)) ∙ omega arith

module _ (sig : Signature) (n : ℕ) (kind : sig.kind ≡ Bcast) (low : sig.root < n) (many : 1 < n) (long : 65536 ≤ block_len sig) where
  abbrev b : ℕ
  b = block_len sig

  abbrev c : ℕ
  c = relay_count n b

  abbrev input : ℕ → Region
  input r = cond (eqb r sig.root) (front b) nothing

  abbrev columns : List Column
  columns = relaying b n sig.root 0 c

  input_in : (r : ℕ) → Inside b (input r)
  input_in r = cond_both (eqb r sig.root) (front b) nothing (Inside b) (λ e. omega arith) (λ e. omega arith)

  chain_lawful : IsLawful n (chain_family sig n)
  chain_lawful = lawful_family n b input (λ r. front b) columns (λ r h. input_in r) (λ r h. omega arith) (relaying_columns b n sig.root low 0 c)

  chain_rounds : (j r : ℕ) → j < c → actions_at (chain_family sig n) j r ≡ relay b n sig.root j r
  chain_rounds j r h =
      round-column columns j r
      ∙ ap (λ (column : Column). column r) (relaying-at b n sig.root 0 c j h ∙ ap (relay b n sig.root) (let z : 0 + j ≡ j = omega arith in z))

  chain_length : (r : ℕ) → length (chain_family sig n r).rounds ≡ c
  chain_length r = length-rounds columns r ∙ length-relaying b n sig.root 0 c

  number_in : (r : ℕ) → r < n → from_root n sig.root r < n
  number_in r h = number_low n sig.root r (from_root n sig.root r) h (from_root_is n sig.root r low)

  takes : (r : ℕ) → (input r).len ≡ given_len sig n r
  takes r = elim (eqb r sig.root) as (λ t. (cond t (front b) nothing).len ≡ cond t b 0) [ true ↦ refl | false ↦ refl ]
      ∙ sym (ap (λ k. given_by k sig.root n r b (row_len sig)) kind)

  module _ (given : List (List ℕ)) (are : AreGiven sig n given) where
    laid : GivenFits n (chain_family sig n) (row_of given)
    laid r h = are.long r h ∙ sym (takes r)

    root_row : length (row_of given sig.root) ≡ b
    root_row = laid sig.root low ∙ ap (λ g. g.len) (cond-true (eqb sig.root sig.root) (front b) nothing (eq-eqb sig.root sig.root refl))

    begins : lock_step (chain_family sig n) (row_of given) 0 (member_at n sig.root 0) ≡ row_of given sig.root
    begins =
        ap (lock_step (chain_family sig n) (row_of given) 0) (member_at-root n sig.root low)
        ∙ (sym (read_whole b (lock_step (chain_family sig n) (row_of given) 0 sig.root)
        (length_lock_step n (chain_family sig n) chain_lawful (row_of given) laid 0 sig.root low))
        ∙ (ap (read_of (lock_step (chain_family sig n) (row_of given) 0 sig.root))
        (sym (cond-true (eqb sig.root sig.root) (front b) nothing (eq-eqb sig.root sig.root refl)))
        ∙ input_held n (chain_family sig n) chain_lawful (row_of given) laid sig.root low))

    ends : (v : ℕ) → v < n → member_at n sig.root v < n → lock_step (chain_family sig n) (row_of given) c (member_at n sig.root v) ≡ row_of given sig.root
    ends v h k =
        same_segments b (lock_step (chain_family sig n) (row_of given) c (member_at n sig.root v)) (row_of given sig.root)
        (length_lock_step n (chain_family sig n) chain_lawful (row_of given) laid c (member_at n sig.root v) k) root_row
        (λ i l. relay_holds (chain_family sig n) b n sig.root c low chain_rounds chain_lawful (row_of given) laid (λ p q. omega arith) (row_of given sig.root)
        (λ i l. ap (λ buf. read_of buf (segment b i)) begins) c v i (omega arith) h l (inr (omega arith)))

    chain_value : (r : ℕ) → r < n → result_at (chain_family sig n) (row_of given) r ≡ value sig given r
    chain_value r h =
        ap (λ j. read_of (lock_step (chain_family sig n) (row_of given) j r) (front b)) (chain_length r)
        ∙ (read_whole b (lock_step (chain_family sig n) (row_of given) c r) (length_lock_step n (chain_family sig n) chain_lawful (row_of given) laid c r h)
        ∙ (ap (lock_step (chain_family sig n) (row_of given) c) (sym (member_at-from_root n sig.root r low h))
        ∙ (ends (from_root n sig.root r) (number_in r h) (subst (λ p. p < n) (sym (member_at-from_root n sig.root r low h)) h)
        ∙ sym (ap (λ k. value_by k (unwrap_or sig.op Sum) sig.ty b sig.root given r) kind))))

  chain_hears : (r p : ℕ) → r < n → needs sig n r p ≡ true → Heard (chain_family sig n) (length (chain_family sig n r).rounds) r p
  chain_hears r p h need =
      let parts = and_parts (ltb p n) (needs_of sig.kind sig.root r p) need in
      let same : p ≡ sig.root = eqb-true p sig.root (sym (ap (λ k. needs_of k sig.root r p) kind) ∙ parts.1) in
      let v : from_root n sig.root r < n = number_in r h in
      subst (λ j. Heard (chain_family sig n) j r p) (sym (chain_length r))
      (subst (λ q. Heard (chain_family sig n) c q p) (member_at-from_root n sig.root r low h)
      (relay_hears (chain_family sig n) b n sig.root c low chain_rounds (omega arith) c (from_root n sig.root r) p (omega arith)
      v (omega arith) (same ∙ sym (member_at-root n sig.root low))))

  chain_narrow : IsNarrowFor sig n (chain_family sig n) (relay_count n (block_len sig))
  chain_narrow = record {
    serves = record {
      lawful = chain_lawful;
      takes_given = λ r h. takes r;
      gives_got = λ r h. sym (ap (λ k. got_by k sig.root n r b (row_len sig)) kind);
      has_value = λ given are bytes r h. chain_value given are r h;
      hears = chain_hears;
    };
    narrow = narrow_family n b input (λ r. front b) columns (relaying_columns b n sig.root low 0 c);
    few = few_exchanges n b input (λ r. front b) columns c (relaying_costs b n sig.root 0 c);
  }

-- the family of a long bcast serves each checked one
pub chain_serves : (sig : Signature) (n : ℕ) → broken sig n ≡ None → sig.kind ≡ Bcast → is_long n (block_len sig) ≡ true
    → IsNarrowFor sig n (chain_family sig n) (relay_count n (block_len sig))
chain_serves sig n h kind long =
    let parts = and_parts (ltb 1 n) (leb 65536 (block_len sig)) long in
    chain_narrow sig n kind (root_low sig n (checked sig n h) (ap has_root kind)) (ltb-true 1 n parts.0) (leb-true 65536 (block_len sig) parts.1)

-- the parts that the builder makes are the family's
pub chain_parts : (sig : Signature) (n r size : ℕ) (input output : Region) (rounds : List (List Action)) → size ≡ block_len sig
    → input ≡ cond (eqb r sig.root) (front size) nothing → output ≡ front size
    → rounds ≡ rounds_of (relaying size n sig.root 0 (relay_count n size)) r
    → ◌≡◌ {A = Parts} (record { size = size; input = input; output = output; rounds = rounds }) (chain_family sig n r)
chain_parts sig n r size input output rounds e i o s =
    let i2 : input ≡ cond (eqb r sig.root) (front (block_len sig)) nothing = i ∙ ap (λ l. cond (eqb r sig.root) (front l) nothing) e in
    let o2 : output ≡ front (block_len sig) = o ∙ ap front e in
    let s2 : rounds ≡ rounds_of (relaying (block_len sig) n sig.root 0 (relay_count n (block_len sig))) r =
    s ∙ ap (λ l. rounds_of (relaying l n sig.root 0 (relay_count n l)) r) e in
    λ k. record { size = e k; input = i2 k; output = o2 k; rounds = s2 k }
