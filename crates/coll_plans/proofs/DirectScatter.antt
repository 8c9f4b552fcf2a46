-- the family of scatter, by a direct exchange
use Rattle.std.proofs.Common.{◌≡◌, ℕ, ◌+◌, ◌*◌, ◌<◌, ◌≤◌, true, false, eqb, cond, List, [], ◌∷◌, None, refl, sym, ap, ◌∙◌, arith, eqb-true, eq-eqb}
use Rattle.std.proofs.Common.{ltb, unwrap_or}
use Rattle.std.proofs.lemmas.Bool.{cond-true, cond_both, and_parts, ltb-true}
use Rattle.std.proofs.Math.Nat.{mul-zero}
use Rattle.coll_kinds.specs.declared.signature.Signature.{Signature}
use Rattle.coll_kinds.specs.declared.kind.Kind.TheVariants.{Scatter}
use Rattle.coll_kinds.specs.declared.operation.Op.TheVariants.{Sum}
use Rattle.coll_kinds.specs.Common.{block_len, row_len, given_by, got_by, needs_of, has_root, broken}
use Rattle.coll_ops.specs.Values.{block, row_of, value_by}
use Rattle.coll_sched.specs.Common.{Inside, read_of, front, nothing, lock_step, result_at, IsLawful}
use Rattle.coll_sched.proofs.Rounds.{GivenFits}
use Rattle.coll_trees.proofs.Checked.{checked, root_low}
use Rattle.coll_trees.proofs.Columns.{lawful_columns}
use Rattle.coll_plans.specs.declared.direct_pattern.Pattern.TheVariants.{FromRoot}
use Rattle.coll_plans.specs.DirectExchange.{alike, exchange}
use Rattle.coll_plans.specs.DirectFamilies.{IsDirectFor, one_block, blocks_from, all_blocks, scatter_by, scatter_family}
use Rattle.coll_trees.specs.Depths.{direct_bound}
use Rattle.coll_plans.proofs.DirectExchange.{IsRouted, exchange_column}
use Rattle.coll_plans.proofs.DirectPlaces.{block_within}
use Rattle.coll_plans.proofs.DirectArrivals.{got_part, heard_of}
use Rattle.coll_plans.proofs.DirectCosts.{direct_few}

module _ (root n b : ℕ) where
  room : (r : ℕ) → b ≤ (scatter_by root n b r).size
  room r = cond_both (eqb r root) (b + n * b) b (λ size. b ≤ size) (λ e. omega arith) (λ e. omega arith)

  routed : IsRouted n (λ r. (scatter_by root n b r).size) (FromRoot root) (alike (blocks_from b b)) (alike (one_block b))
  routed = record {
    same = λ q r. refl;
    from_inside = λ r p hr hp e. let l : p * b + b ≤ n * b =
        block_within p n b hp in let s : (scatter_by root n b r).size ≡ b + n * b = cond-true (eqb r root) (b + n * b) b e in omega arith;
    into_inside = λ r q hr hq e. let l : b ≤ (scatter_by root n b r).size = room r in let z : q * 0 ≡ 0 = mul-zero q in omega arith;
    sent_apart = λ r p q hp hq d e i x y z w. let t : q * 0 ≡ 0 = mul-zero q in omega arith;
    got_apart = λ r p q hp hq d e h. absurd (d (eqb-true p root e ∙ sym (eqb-true q root h)));
  }

  input_in : (r : ℕ) → Inside (scatter_by root n b r).size (scatter_by root n b r).input
  input_in r = elim (eqb r root) as (λ t. Inside (cond t (b + n * b) b) (cond t (all_blocks b n b) nothing)) [ true ↦ omega arith | false ↦ omega arith ]

  output_in : (r : ℕ) → Inside (scatter_by root n b r).size (scatter_by root n b r).output
  output_in r = let l : b ≤ (scatter_by root n b r).size = room r in omega arith

  scatter_lawful : IsLawful n (scatter_by root n b)
  scatter_lawful =
      lawful_columns n (scatter_by root n b) (exchange (FromRoot root) (blocks_from b b) (one_block b) n ∷ []) (λ r. refl)
      (λ r h. input_in r) (λ r h. output_in r)
      (exchange_column n (FromRoot root) (alike (blocks_from b b)) (alike (one_block b)) (λ r. (scatter_by root n b r).size) routed, tt)

  -- each ends with its block of the root's row
  scatter_value : (given : ℕ → List ℕ) → root < n → GivenFits n (scatter_by root n b) given → (r : ℕ) → r < n
      → result_at (scatter_by root n b) given r ≡ block b r (given root)
  scatter_value given member laid r low =
      let at_root : (scatter_by root n b root).input ≡ all_blocks b n b = cond-true (eqb root root) (all_blocks b n b) nothing (eq-eqb root root refl) in
      let start : 0 ≡ 0 + root * 0 = let z : root * 0 ≡ 0 = mul-zero root in omega arith in
      let within : r * b + b ≤ n * b = block_within r n b low in
      let len : (scatter_by root n b root).input.len ≡ n * b = ap (λ g. g.len) at_root in
      ap (λ a. read_of (lock_step (scatter_by root n b) given 1 r) (record { at = a; len = b })) start
      ∙ got_part n (FromRoot root) (blocks_from b b) (one_block b) (scatter_by root n b) scatter_lawful (λ q. refl) given laid r
      root low member (eq-eqb root root refl) (ap (λ g. g.at) at_root) (omega arith)

-- the family of scatter serves each checked scatter
pub scatter_serves : (sig : Signature) (n : ℕ) → broken sig n ≡ None → sig.kind ≡ Scatter → IsDirectFor sig n (scatter_family sig n) (direct_bound n)
scatter_serves sig n fits kind = record {
  serves = record {
    lawful = scatter_lawful sig.root n (block_len sig);
    takes_given = λ r h. takes r;
    gives_got = λ r h. sym (ap (λ k. got_by k sig.root n r (block_len sig) (row_len sig)) kind);
    has_value = λ given are bytes r h. scatter_value sig.root n (block_len sig) (row_of given)
        (root_low sig n (checked sig n fits) (ap has_root kind)) (λ q l. are.long q l ∙ sym (takes q)) r h
        ∙ sym (ap (λ k. value_by k (unwrap_or sig.op Sum) sig.ty (block_len sig) sig.root given r) kind);
    hears = λ r p h need. let parts = and_parts (ltb p n) (needs_of sig.kind sig.root r p) need in
        heard_of n (FromRoot sig.root) (blocks_from (block_len sig) (block_len sig)) (one_block (block_len sig))
        (scatter_family sig n) (scatter_lawful sig.root n (block_len sig)) (λ q. refl) 0 r p (ltb-true p n parts.0)
        (sym (ap (λ k. needs_of k sig.root r p) kind) ∙ parts.1);
  };
  few = direct_few n (FromRoot sig.root) (alike (blocks_from (block_len sig) (block_len sig)))
      (alike (one_block (block_len sig))) (λ r. cond (eqb r sig.root) (block_len sig + n * block_len sig) (block_len sig))
      (λ r. cond (eqb r sig.root) (all_blocks (block_len sig) n (block_len sig)) nothing) (λ r. front (block_len sig)) [] tt;
}
  where
    takes : (r : ℕ) → (scatter_family sig n r).input.len ≡ given_by sig.kind sig.root n r (block_len sig) (row_len sig)
    takes r = elim (eqb r sig.root) as
        (λ t. (cond t (all_blocks (block_len sig) n (block_len sig)) nothing).len ≡ cond t (n * block_len sig) 0) [ true ↦ refl | false ↦ refl ]
        ∙ sym (ap (λ k. given_by k sig.root n r (block_len sig) (row_len sig)) kind)
