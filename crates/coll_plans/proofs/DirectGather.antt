-- the family of gather, by a direct exchange
use Rattle.std.proofs.Common.{◌≡◌, ℕ, ◌+◌, ◌*◌, ◌<◌, ◌≤◌, ◌⊎◌, inl, inr, true, false, eqb, cond, List, [], ◌∷◌, length, refl, sym, ap, subst, ◌∙◌}
use Rattle.std.proofs.Common.{arith, eqb-true, ltb, ltb-true, unwrap_or, flat_map}
use Rattle.std.proofs.lemmas.Bool.{cond-true, cond-false, cond_both, cases_Bool, and_parts, or_cases}
use Rattle.std.proofs.Math.Nat.{mul-zero}
use Rattle.coll_kinds.specs.declared.signature.Signature.{Signature}
use Rattle.coll_kinds.specs.declared.kind.Kind.TheVariants.{Gather}
use Rattle.coll_kinds.specs.declared.operation.Op.TheVariants.{Sum}
use Rattle.coll_kinds.specs.Common.{block_len, row_len, given_by, got_by, needs_of}
use Rattle.coll_ops.specs.Values.{part, row_of, all_rows, value_by}
use Rattle.coll_ops.proofs.Given.{flat_map-part_whole}
use Rattle.coll_sched.specs.Common.{Inside, read_of, front, nothing, lock_step, result_at, Heard, IsLawful}
use Rattle.coll_sched.proofs.Track.{heard_self}
use Rattle.coll_trees.proofs.Columns.{lawful_columns}
use Rattle.coll_plans.specs.declared.direct_pattern.Pattern.TheVariants.{ToRoot}
use Rattle.coll_plans.specs.DirectExchange.{alike, exchange}
use Rattle.coll_plans.specs.DirectFamilies.{IsDirectFor, one_block, blocks_from, all_blocks, gather_by, gather_family}
use Rattle.coll_trees.specs.Depths.{direct_bound}
use Rattle.coll_plans.proofs.DirectExchange.{IsRouted, exchange_column}
use Rattle.coll_plans.proofs.DirectPlaces.{block_within, places_apart}
use Rattle.coll_plans.proofs.DirectArrivals.{got_all, heard_of}
use Rattle.coll_plans.proofs.DirectCosts.{direct_few}

module _ (root n b : ℕ) where
  room : (r : ℕ) → b ≤ (gather_by root n b r).size
  room r = cond_both (eqb r root) (b + n * b) b (λ size. b ≤ size) (λ e. omega arith) (λ e. omega arith)

  routed : IsRouted n (λ r. (gather_by root n b r).size) (ToRoot root) (alike (one_block b)) (alike (blocks_from b b))
  routed = record {
    same = λ q r. refl;
    from_inside = λ r p hr hp e. let l : b ≤ (gather_by root n b r).size = room r in let z : p * 0 ≡ 0 = mul-zero p in omega arith;
    into_inside = λ r q hr hq e. let l : q * b + b ≤ n * b =
        block_within q n b hq in let s : (gather_by root n b r).size ≡ b + n * b = cond-true (eqb r root) (b + n * b) b e in omega arith;
    sent_apart = λ r p q hp hq d e i x y z w. let t : p * 0 ≡ 0 = mul-zero p in omega arith;
    got_apart = λ r p q hp hq d e h. places_apart b b p q d;
  }

  input_in : (r : ℕ) → Inside (gather_by root n b r).size (gather_by root n b r).input
  input_in r = let l : b ≤ (gather_by root n b r).size = room r in omega arith

  output_in : (r : ℕ) → Inside (gather_by root n b r).size (gather_by root n b r).output
  output_in r = elim (eqb r root) as (λ t. Inside (cond t (b + n * b) b) (cond t (all_blocks b n b) nothing)) [ true ↦ omega arith | false ↦ omega arith ]

  gather_lawful : IsLawful n (gather_by root n b)
  gather_lawful =
      lawful_columns n (gather_by root n b) (exchange (ToRoot root) (one_block b) (blocks_from b b) n ∷ []) (λ r. refl) (λ r h. input_in r) (λ r h. output_in r)
      (exchange_column n (ToRoot root) (alike (one_block b)) (alike (blocks_from b b)) (λ r. (gather_by root n b r).size) routed, tt)

  -- the root ends with all rows, the others with nothing
  gather_value : (given : List (List ℕ)) → length given ≡ n → ((r : ℕ) → r < n → length (row_of given r) ≡ b) → (r : ℕ) → r < n
      → result_at (gather_by root n b) (row_of given) r ≡ cond (eqb r root) (all_rows given) []
  gather_value given each long r low = go (cases_Bool (eqb r root))
    where
      go : (eqb r root ≡ true) ⊎ (eqb r root ≡ false) → result_at (gather_by root n b) (row_of given) r ≡ cond (eqb r root) (all_rows given) []
      go (inl e) =
          ap (read_of (lock_step (gather_by root n b) (row_of given) 1 r)) (cond-true (eqb r root) (all_blocks b n b) nothing e)
          ∙ (got_all n (ToRoot root) (one_block b) b (gather_by root n b) gather_lawful (λ q. refl) given each long r low
          (λ q h. (e, refl, let z : r * 0 ≡ 0 = mul-zero r in omega arith))
          ∙ (ap (λ m. flat_map (part m b) given) (mul-zero r)
          ∙ (flat_map-part_whole b given (λ i h. long i (omega arith)) ∙ sym (cond-true (eqb r root) (all_rows given) [] e))))
      go (inr e) =
          ap (read_of (lock_step (gather_by root n b) (row_of given) 1 r)) (cond-false (eqb r root) (all_blocks b n b) nothing e)
          ∙ sym (cond-false (eqb r root) (all_rows given) [] e)

  gather_hears : (r p : ℕ) → p < n → (eqb r root ≡ true) ⊎ (eqb p r ≡ true) → Heard (gather_by root n b) 1 r p
  gather_hears r p low (inl e) = heard_of n (ToRoot root) (one_block b) (blocks_from b b) (gather_by root n b) gather_lawful (λ q. refl) 0 r p low e
  gather_hears r p low (inr e) = subst (λ q. Heard (gather_by root n b) 1 r q) (sym (eqb-true p r e)) (heard_self (gather_by root n b) 1 r)

-- the family of gather serves each gather
pub gather_serves : (sig : Signature) (n : ℕ) → sig.kind ≡ Gather → IsDirectFor sig n (gather_family sig n) (direct_bound n)
gather_serves sig n kind = record {
  serves = record {
    lawful = gather_lawful sig.root n (block_len sig);
    takes_given = λ r h. takes r;
    gives_got = λ r h. elim (eqb r sig.root) as
        (λ t. (cond t (all_blocks (block_len sig) n (block_len sig)) nothing).len ≡ cond t (n * block_len sig) 0) [ true ↦ refl | false ↦ refl ]
        ∙ sym (ap (λ k. got_by k sig.root n r (block_len sig) (row_len sig)) kind);
    has_value = λ given are bytes r h. gather_value sig.root n (block_len sig) given are.each (λ q l. are.long q l ∙ sym (takes q)) r h
        ∙ sym (ap (λ k. value_by k (unwrap_or sig.op Sum) sig.ty (block_len sig) sig.root given r) kind);
    hears = λ r p h need. let parts =
        and_parts (ltb p n) (needs_of sig.kind sig.root r p) need in gather_hears sig.root n (block_len sig) r p
        (ltb-true p n parts.0) (or_cases (eqb r sig.root) (eqb p r) (sym (ap (λ k. needs_of k sig.root r p) kind) ∙ parts.1));
  };
  few = direct_few n (ToRoot sig.root) (alike (one_block (block_len sig))) (alike (blocks_from (block_len sig) (block_len sig)))
      (λ r. cond (eqb r sig.root) (block_len sig + n * block_len sig) (block_len sig)) (λ r. front (block_len sig))
      (λ r. cond (eqb r sig.root) (all_blocks (block_len sig) n (block_len sig)) nothing) [] tt;
}
  where
    takes : (r : ℕ) → block_len sig ≡ given_by sig.kind sig.root n r (block_len sig) (row_len sig)
    takes r = sym (ap (λ k. given_by k sig.root n r (block_len sig) (row_len sig)) kind)
