-- the family of rsblock, by a direct exchange
use Rattle.std.proofs.Common.{◌≡◌, ℕ, zero, suc, ◌+◌, ◌-◌, ◌*◌, ◌%◌, ◌<◌, ◌≤◌, List, [], ◌∷◌, length, map, Some, None, IsTrue, refl, sym, ap, ◌∙◌}
use Rattle.std.proofs.Common.{arith, ltb, unwrap_or, zero-mul, mul_assoc}
use Rattle.std.proofs.lemmas.Bool.{and_parts, ltb-true}
use Rattle.std.proofs.lemmas.List.{length-map}
use Rattle.coll_kinds.specs.declared.signature.Signature.{Signature}
use Rattle.coll_kinds.specs.declared.kind.Kind.TheVariants.{Rsblock}
use Rattle.coll_kinds.specs.declared.operation.Op.{Op}
use Rattle.coll_kinds.specs.declared.operation.Op.TheVariants.{Sum}
use Rattle.coll_kinds.specs.declared.datatype.Datatype.{Datatype}
use Rattle.coll_kinds.specs.Common.{width, block_len, row_len, given_by, got_by, needs_of, allowed, has_operation, broken}
use Rattle.coll_ops.specs.Combinations.{combination}
use Rattle.coll_ops.specs.Values.{part, block, row_of, value_by}
use Rattle.coll_ops.proofs.Blocks.{combination-parts}
use Rattle.coll_ops.proofs.Given.{blocks-around}
use Rattle.coll_ops.proofs.RowLists.{combination-last}
use Rattle.coll_sched.specs.declared.region.Region.{Region}
use Rattle.coll_sched.specs.declared.action.Action.{Action}
use Rattle.coll_sched.specs.Common.{read_of, Parts, actions_at, lock_step, result_at, IsLawful}
use Rattle.coll_trees.specs.Columns.{rounds_of}
use Rattle.coll_trees.proofs.Checked.{checked, operation_allowed, block_whole}
use Rattle.coll_trees.proofs.Columns.{column_of, round-column, lawful_columns}
use Rattle.coll_plans.specs.declared.direct_pattern.Pattern.TheVariants.{ToAll}
use Rattle.coll_plans.specs.DirectExchange.{alike, place, exchange}
use Rattle.coll_plans.specs.DirectFamilies.{IsDirectFor, blocks_from, all_blocks, combines_below, rsblock_by, rsblock_family}
use Rattle.coll_trees.specs.Depths.{direct_bound}
use Rattle.coll_plans.proofs.DirectExchange.{exchange_column}
use Rattle.coll_plans.proofs.DirectPlaces.{block_within}
use Rattle.coll_plans.proofs.DirectArrivals.{got_part, heard_of}
use Rattle.coll_plans.proofs.DirectCosts.{direct_few}
use Rattle.coll_plans.proofs.DirectAlltoall.{all_routed}
use Rattle.coll_plans.proofs.DirectRsblockCombining.{Combines, length-combines, combines_local, combines_columns, combines_all, combines-same}

row_of-map : (F : List ℕ → List ℕ) (rows : List (List ℕ)) (i : ℕ) → i < length rows → row_of (map F rows) i ≡ F (row_of rows i)
row_of-map F [] i h = absurd (omega arith)
row_of-map F (row ∷ rows) zero h = refl
row_of-map F (row ∷ rows) (suc i) h = row_of-map F rows i (omega arith)

-- block r of a combination, by whole elements
block-combination : (op : Op) (ty : Datatype) (n r count : ℕ) (given : List (List ℕ)) → r < n → length given ≡ n
    → ((i : ℕ) → i < n → length (row_of given i) ≡ n * (count * width ty)) →
    combination op ty (map (block (count * width ty) r) given) ≡ block (count * width ty) r (combination op ty given)
block-combination op ty n r count given low each long =
    let at : r * (count * width ty) ≡ r * count * width ty = sym (mul_assoc r count (width ty)) in
    ap (λ a. combination op ty (map (part a (count * width ty)) given)) at
    ∙ (combination-parts op ty (r * count) count ((n - (r + 1)) * count) given (omega arith)
    (λ i h. long i (omega arith) ∙ sym (blocks-around r n count (width ty) low))
    ∙ ap (λ a. part a (count * width ty) (combination op ty given)) (sym at))

module _ (op : Op) (ty : Datatype) (n b : ℕ) (may : IsTrue (allowed op ty)) (whole : b % width ty ≡ 0) where
  rsblock_lawful : IsLawful n (rsblock_by op ty n b)
  rsblock_lawful =
      lawful_columns n (rsblock_by op ty n b)
      (exchange ToAll (blocks_from 0 b) (blocks_from (n * b) b) n ∷ combines_below op ty (blocks_from (n * b) b) (n - 1)) (λ r. refl) (λ r h. omega arith)
      (λ r h. let l : 0 * b + b ≤ n * b = block_within 0 n b (omega arith) in omega arith) (
        exchange_column n ToAll (alike (blocks_from 0 b)) (alike (blocks_from (n * b) b)) (λ r. n * b + n * b) (all_routed n b),
        combines_columns op ty n (n * b) b (n - 1) (λ r. n * b + n * b) may whole (omega arith) (λ r h. omega arith),
      )

  -- each ends with the combination of its blocks of all rows
  module _ (given : List (List ℕ)) (each : length given ≡ n) (long : (r : ℕ) → r < n → length (row_of given r) ≡ n * b) (r : ℕ) (low : r < n) where
    got : (q : ℕ) → q < n → read_of (lock_step (rsblock_by op ty n b) (row_of given) 1 r) (place (blocks_from (n * b) b) q) ≡ row_of (map (block b r) given) q
    got q h = got_part n ToAll (blocks_from 0 b) (blocks_from (n * b) b) (rsblock_by op ty n b) rsblock_lawful (λ p. refl)
        (row_of given) long r q low h refl refl (block_within r n b low) ∙ sym (row_of-map (block b r) given q (omega arith))

    blocks_each : length (map (block b r) given) ≡ n
    blocks_each = length-map given (block b r) ∙ each

    began : Combines op ty (n * b) b (lock_step (rsblock_by op ty n b) (row_of given) 1 r) (map (block b r) given) (n - 1)
    began = record {
      done = got (n - 1) (omega arith) ∙ sym (combination-last op ty (map (block b r) given) (n - 1) (omega (arith, blocks_each)));
      left = λ i h. got i (omega arith);
    }

    combines_acts : (i : ℕ) → i < n - 1 → actions_at (rsblock_by op ty n b) (1 + i) r ≡ column_of (combines_below op ty (blocks_from (n * b) b) (n - 1)) i r
    combines_acts i h =
        ap (λ m. actions_at (rsblock_by op ty n b) m r) (let z : 1 + i ≡ suc i = omega arith in z)
        ∙ round-column (exchange ToAll (blocks_from 0 b) (blocks_from (n * b) b) n ∷ combines_below op ty (blocks_from (n * b) b) (n - 1)) (suc i) r

    combined_value : result_at (rsblock_by op ty n b) (row_of given) r ≡ combination op ty (map (block b r) given)
    combined_value =
        ap (λ m. read_of (lock_step (rsblock_by op ty n b) (row_of given) m r) (record { at = n * b; len = b }))
        (let k : length (rounds_of (combines_below op ty (blocks_from (n * b) b) (n - 1)) r) ≡ n - 1 =
        length-combines op ty (n * b) b (n - 1) r in let z : suc (length (rounds_of (combines_below op ty (blocks_from (n * b) b) (n - 1)) r))
        ≡ 1 + (n - 1) = omega arith in z)
        ∙ (ap (λ a. read_of (lock_step (rsblock_by op ty n b) (row_of given) (1 + (n - 1)) r) (record { at = a; len = b }))
        (let z : n * b ≡ n * b + 0 * b = omega (arith, zero-mul b) in z)
        ∙ combines_all op ty n (n * b) b (rsblock_by op ty n b) rsblock_lawful (row_of given) long r low (omega arith)
        (map (block b r) given) blocks_each 1 (n - 1) (omega arith) combines_acts began)

-- the family of rsblock serves each checked rsblock
pub rsblock_serves : (sig : Signature) (n : ℕ) → broken sig n ≡ None → sig.kind ≡ Rsblock → IsDirectFor sig n (rsblock_family sig n) (direct_bound n)
rsblock_serves sig n fits kind = record {
  serves = record {
    lawful = rsblock_lawful (unwrap_or sig.op Sum) sig.ty n (block_len sig) may (block_whole sig);
    takes_given = λ r h. takes r;
    gives_got = λ r h. sym (ap (λ k. got_by k sig.root n r (block_len sig) (row_len sig)) kind);
    has_value = λ given are bytes r h. combined_value (unwrap_or sig.op Sum) sig.ty n (block_len sig) may (block_whole sig) given
        are.each (λ q l. are.long q l ∙ sym (takes q)) r h
        ∙ (block-combination (unwrap_or sig.op Sum) sig.ty n r sig.count given h are.each (λ q l. are.long q l ∙ sym (takes q))
        ∙ sym (ap (λ k. value_by k (unwrap_or sig.op Sum) sig.ty (block_len sig) sig.root given r) kind));
    hears = λ r p h need. let parts = and_parts (ltb p n) (needs_of sig.kind sig.root r p) need in
        heard_of n ToAll (blocks_from 0 (block_len sig)) (blocks_from (n * block_len sig) (block_len sig)) (rsblock_family sig n)
        (rsblock_lawful (unwrap_or sig.op Sum) sig.ty n (block_len sig) may (block_whole sig)) (λ q. refl)
        (length (rounds_of (combines_below (unwrap_or sig.op Sum) sig.ty (blocks_from (n * block_len sig) (block_len sig)) (n - 1)) r))
        r p (ltb-true p n parts.0) refl;
  };
  few = direct_few n ToAll (alike (blocks_from 0 (block_len sig))) (alike (blocks_from (n * block_len sig) (block_len sig)))
      (λ r. n * block_len sig + n * block_len sig) (λ r. all_blocks 0 n (block_len sig)) (λ r. record { at = n * block_len sig; len = block_len sig })
      (combines_below (unwrap_or sig.op Sum) sig.ty (blocks_from (n * block_len sig) (block_len sig)) (n - 1))
      (combines_local (unwrap_or sig.op Sum) sig.ty (n * block_len sig) (block_len sig) (n - 1));
}
  where
    may : IsTrue (allowed (unwrap_or sig.op Sum) sig.ty)
    may = operation_allowed sig n (checked sig n fits) (ap has_operation kind)

    takes : (r : ℕ) → n * block_len sig ≡ given_by sig.kind sig.root n r (block_len sig) (row_len sig)
    takes r = sym (ap (λ k. given_by k sig.root n r (block_len sig) (row_len sig)) kind)

-- the parts that the builder makes are the family's
pub rsblock_parts : (sig : Signature) (n r len half : ℕ) (op : Op) (input : Region) (rounds : List (List Action))
    → len ≡ block_len sig → half ≡ n * len → sig.op ≡ Some op → input ≡ all_blocks 0 n len →
    rounds ≡ exchange ToAll (blocks_from 0 len) (blocks_from half len) n r ∷ rounds_of (combines_below op sig.ty (blocks_from half len) (n - 1)) 0 →
    ◌≡◌ {A = Parts} (record { size = half + half; input = input; output = record { at = half; len = len }; rounds = rounds }) (rsblock_family sig n r)
rsblock_parts sig n r len half op input rounds e h o i s =
    let s2 : rounds ≡ (rsblock_by op sig.ty n len r).rounds =
    s ∙ (ap (λ k. exchange ToAll (blocks_from 0 len) (blocks_from k len) n r ∷ rounds_of (combines_below op sig.ty (blocks_from k len) (n - 1)) 0) h
    ∙ ap (λ rest. exchange ToAll (blocks_from 0 len) (blocks_from (n * len) len) n r ∷ rest) (combines-same op sig.ty (blocks_from (n * len) len) (n - 1) r)) in
    let parts : ◌≡◌ {A = Parts}
    (record { size = half + half; input = input; output = record { at = half; len = len }; rounds = rounds }) (rsblock_by op sig.ty n len r) =
    λ k. record { size = h k + h k; input = i k; output = record { at = h k; len = len }; rounds = s2 k } in
    parts ∙ (ap (λ b. rsblock_by op sig.ty n b r) e ∙ ap (λ x. rsblock_by x sig.ty n (block_len sig) r) (sym (ap (λ x. unwrap_or x Sum) o)))
