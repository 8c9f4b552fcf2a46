-- the family of alltoall, by a direct exchange
use Rattle.std.proofs.Common.{◌≡◌, ℕ, ◌+◌, ◌*◌, ◌<◌, ◌≤◌, List, [], ◌∷◌, length, refl, sym, ap, ◌∙◌, arith, ltb, unwrap_or, flat_map}
use Rattle.std.proofs.lemmas.Bool.{and_parts, ltb-true}
use Rattle.coll_kinds.specs.declared.signature.Signature.{Signature}
use Rattle.coll_kinds.specs.declared.kind.Kind.TheVariants.{Alltoall}
use Rattle.coll_kinds.specs.declared.operation.Op.TheVariants.{Sum}
use Rattle.coll_kinds.specs.Common.{block_len, row_len, given_by, got_by, needs_of}
use Rattle.coll_ops.specs.Values.{block, row_of, value_by}
use Rattle.coll_sched.specs.Families.{result_at, IsLawful}
use Rattle.coll_trees.proofs.Columns.{lawful_columns}
use Rattle.coll_plans.specs.declared.direct_pattern.Pattern.TheVariants.{ToAll}
use Rattle.coll_plans.specs.DirectExchange.{alike, exchange}
use Rattle.coll_plans.specs.DirectFamilies.{IsDirectFor, blocks_from, all_blocks, alltoall_by, alltoall_family}
use Rattle.coll_trees.specs.Depths.{direct_bound}
use Rattle.coll_plans.proofs.DirectExchange.{IsRouted, exchange_column}
use Rattle.coll_plans.proofs.DirectPlaces.{block_within, places_apart}
use Rattle.coll_plans.proofs.DirectArrivals.{got_all, heard_of}
use Rattle.coll_plans.proofs.DirectCosts.{direct_few}

-- the blocks that a member gets lie after those that it gives
pub all_routed : (n b : ℕ) → IsRouted n (λ r. n * b + n * b) ToAll (alike (blocks_from 0 b)) (alike (blocks_from (n * b) b))
all_routed n b = record {
  same = λ q r. refl;
  from_inside = λ r p hr hp e. let l : p * b + b ≤ n * b = block_within p n b hp in omega arith;
  into_inside = λ r q hr hq e. let l : q * b + b ≤ n * b = block_within q n b hq in omega arith;
  sent_apart = λ r p q hp hq d e i x y z w. let l : p * b + b ≤ n * b = block_within p n b hp in omega arith;
  got_apart = λ r p q hp hq d e h. places_apart (n * b) b p q d;
}

module _ (n b : ℕ) where
  alltoall_lawful : IsLawful n (alltoall_by n b)
  alltoall_lawful =
      lawful_columns n (alltoall_by n b) (exchange ToAll (blocks_from 0 b) (blocks_from (n * b) b) n ∷ []) (λ r. refl) (λ r h. omega arith) (λ r h. omega arith)
      (exchange_column n ToAll (alike (blocks_from 0 b)) (alike (blocks_from (n * b) b)) (λ r. n * b + n * b) (all_routed n b), tt)

  -- each ends with its blocks of all rows
  alltoall_value : (given : List (List ℕ)) → length given ≡ n → ((r : ℕ) → r < n → length (row_of given r) ≡ n * b) → (r : ℕ)
      → r < n → result_at (alltoall_by n b) (row_of given) r ≡ flat_map (block b r) given
  alltoall_value given each long r low =
      got_all n ToAll (blocks_from 0 b) (n * b) (alltoall_by n b) alltoall_lawful (λ q. refl) given each long r low
      (λ q h. (refl, refl, block_within r n b low))

-- the family of alltoall serves each alltoall
pub alltoall_serves : (sig : Signature) (n : ℕ) → sig.kind ≡ Alltoall → IsDirectFor sig n (alltoall_family sig n) (direct_bound n)
alltoall_serves sig n kind = record {
  serves = record {
    lawful = alltoall_lawful n (block_len sig);
    takes_given = λ r h. takes r;
    gives_got = λ r h. sym (ap (λ k. got_by k sig.root n r (block_len sig) (row_len sig)) kind);
    has_value = λ given are bytes r h. alltoall_value n (block_len sig) given are.each (λ q l. are.long q l ∙ sym (takes q)) r h
        ∙ sym (ap (λ k. value_by k (unwrap_or sig.op Sum) sig.ty (block_len sig) sig.root given r) kind);
    hears = λ r p h need. let parts = and_parts (ltb p n) (needs_of sig.kind sig.root r p) need in
        heard_of n ToAll (blocks_from 0 (block_len sig)) (blocks_from (n * block_len sig) (block_len sig))
        (alltoall_family sig n) (alltoall_lawful n (block_len sig)) (λ q. refl) 0 r p (ltb-true p n parts.0) refl;
  };
  few = direct_few n ToAll (alike (blocks_from 0 (block_len sig))) (alike (blocks_from (n * block_len sig) (block_len sig)))
      (λ r. n * block_len sig + n * block_len sig) (λ r. all_blocks 0 n (block_len sig)) (λ r. all_blocks (n * block_len sig) n (block_len sig)) [] tt;
}
  where
    takes : (r : ℕ) → n * block_len sig ≡ given_by sig.kind sig.root n r (block_len sig) (row_len sig)
    takes r = sym (ap (λ k. given_by k sig.root n r (block_len sig) (row_len sig)) kind)
