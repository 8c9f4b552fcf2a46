-- the family of allgather, by Bruck's algorithm
use Rattle.std.proofs.Common.{◌≡◌, ℕ, suc, ◌+◌, ◌-◌, ◌*◌, ◌%◌, ◌^◌, ◌<◌, ◌≤◌, ◌⊎◌, inl, inr, ltb, List, length, refl, sym, ap, subst, ◌∙◌, arith}
use Rattle.std.proofs.Common.{unwrap_or, ltb-true}
use Rattle.std.proofs.lemmas.Bool.{and_parts, cases_lt}
use Rattle.std.proofs.Math.Nat.{add-mul, one-mul, zero-mul}
use Rattle.std.specs.List.{AllByRecursion}
use Rattle.coll_kinds.specs.declared.signature.Signature.{Signature}
use Rattle.coll_kinds.specs.declared.kind.Kind.TheVariants.{Allgather}
use Rattle.coll_kinds.specs.declared.operation.Op.TheVariants.{Sum}
use Rattle.coll_kinds.specs.Common.{block_len, row_len, given_by, got_by, needs_of}
use Rattle.coll_ops.specs.Values.{row_of, all_rows, value_by}
use Rattle.coll_sched.specs.declared.region.Region.{Region}
use Rattle.coll_sched.specs.declared.action.Action.{Action}
use Rattle.coll_sched.specs.Common.{Parts, read_of, front, actions_at, lock_step, result_at, Heard, IsLawful}
use Rattle.coll_sched.proofs.Rounds.{GivenFits}
use Rattle.coll_sched.proofs.Builders.{input_held}
use Rattle.coll_trees.specs.Columns.{Column, rounds_of}
use Rattle.coll_trees.specs.Depths.{depth}
use Rattle.coll_trees.specs.Trees.{IsNarrowFor}
use Rattle.coll_trees.proofs.Columns.{IsColumn, round-column, length-rounds, lawful_family, narrow_family, few_exchanges}
use Rattle.coll_trees.proofs.Depths.{depth_reaches}
use Rattle.coll_plans.specs.DirectFamilies.{blocks_from}
use Rattle.coll_plans.specs.DirectExchange.{place}
use Rattle.coll_plans.specs.BruckAllgather.{blocks_at, bruck_step, bruck_rounds, rotation, allgather_by, allgather_family}
use Rattle.coll_plans.proofs.DirectArrivals.{read-joined}
use Rattle.coll_plans.proofs.DisseminationBarrier.{step_short}
use Rattle.coll_plans.proofs.Around.{past_last, not_past}
use Rattle.coll_plans.proofs.BruckRegions.{blocks_inside}
use Rattle.coll_plans.proofs.BruckRounds.{bruck_columns, bruck_costs, bruck_rounds-at, bruck_rounds-last, length-bruck_rounds, bruck_heard, bruck_placed}

-- one block, by its place after k blocks
block-place : (b k m : ℕ) → blocks_at b (k + m) 1 ≡ place (blocks_from (k * b) b) m
block-place b k m = let e : (k + m) * b ≡ k * b + m * b = add-mul k m b in let o : 1 * b ≡ b = one-mul b in λ i. record { at = e i; len = o i }

block-front : (b : ℕ) → blocks_at b 0 1 ≡ front b
block-front b = let e : 0 * b ≡ 0 = zero-mul b in let o : 1 * b ≡ b = one-mul b in λ i. record { at = e i; len = o i }

module _ (n b : ℕ) (top : n ≤ 64) where
  abbrev columns : List Column
  columns = bruck_rounds b n 0 (depth n)

  short : (i : ℕ) → i < depth n → 2 ^ i < n
  short i h = step_short n i h

  lawful_columns : AllByRecursion (IsColumn n (n * b + n * b)) columns
  lawful_columns = bruck_columns b n 0 (depth n) (λ j x y. short j (omega arith))

  allgather_lawful : IsLawful n (allgather_by n b)
  allgather_lawful = lawful_family n (n * b + n * b) (λ r. front b) (λ r. blocks_at b n n) columns
      (λ r h. subst (λ g. g.at + g.len ≤ n * b + n * b) (block-front b) (blocks_inside b n 0 1 (omega arith)))
      (λ r h. blocks_inside b n n n (omega arith)) lawful_columns

  allgather_length : (r : ℕ) → length (allgather_by n b r).rounds ≡ suc (depth n)
  allgather_length r = length-rounds columns r ∙ length-bruck_rounds b n 0 (depth n)

  moved : (i r : ℕ) → i < depth n → actions_at (allgather_by n b) i r ≡ bruck_step b n (2 ^ i) r
  moved i r h =
      round-column columns i r
      ∙ ap (λ (column : Column). column r) (bruck_rounds-at b n 0 (depth n) i h ∙ ap (λ e. bruck_step b n (2 ^ e)) (let z : 0 + i ≡ i = omega arith in z))

  rotated : (r : ℕ) → actions_at (allgather_by n b) (depth n) r ≡ rotation b n r
  rotated r = round-column columns (depth n) r ∙ ap (λ (column : Column). column r) (bruck_rounds-last b n 0 (depth n))

  -- each ends with all rows
  allgather_value : (given : List (List ℕ)) → length given ≡ n → GivenFits n (allgather_by n b) (row_of given) → (r : ℕ) → r < n
      → result_at (allgather_by n b) (row_of given) r ≡ all_rows given
  allgather_value given each laid r low =
      ap (λ j. read_of (lock_step (allgather_by n b) (row_of given) j r) (blocks_at b n n)) (allgather_length r)
      ∙ (ap (λ a. read_of (last r) (record { at = a; len = n * b })) (let z : 0 * b ≡ 0 = zero-mul b in let e : n * b ≡ n * b + 0 * b = omega arith in e)
      ∙ (ap (λ m. read_of (last r) (record { at = n * b + 0 * b; len = m * b })) (sym each)
      ∙ read-joined (n * b) b (last r) (λ row. row) given 0
      (λ i h. ap (λ m. read_of (last r) (place (blocks_from (n * b) b) m)) (let z : 0 + i ≡ i = omega arith in z)
      ∙ (ap (read_of (last r)) (sym (block-place b n i)) ∙ placed r i low (omega arith)))))
    where
      last : ℕ → List ℕ
      last r = lock_step (allgather_by n b) (row_of given) (suc (depth n)) r

      start : (r : ℕ) → r < n → read_of (lock_step (allgather_by n b) (row_of given) 0 r) (blocks_at b 0 1) ≡ row_of given r
      start r h = ap (read_of (lock_step (allgather_by n b) (row_of given) 0 r)) (block-front b)
          ∙ input_held n (allgather_by n b) allgather_lawful (row_of given) laid r h

      placed : (r k : ℕ) → r < n → k < n → read_of (lock_step (allgather_by n b) (row_of given) (suc (depth n)) r) (blocks_at b (n + k) 1) ≡ row_of given k
      placed r k hr hk =
          bruck_placed (allgather_by n b) b n (depth n) short moved allgather_lawful (row_of given) laid (λ p h. refl) start
          rotated (depth_reaches n top) r k hr hk

  -- each hears all
  allgather_hears : (r p : ℕ) → r < n → p < n → Heard (allgather_by n b) (length (allgather_by n b r).rounds) r p
  allgather_hears r p hr hp = subst (λ j. Heard (allgather_by n b) j r p) (sym (allgather_length r)) (inl (go (cases_lt p r)))
    where
      from : (m : ℕ) → m < n → (r + m) % n ≡ p → Heard (allgather_by n b) (depth n) r p
      from m h e = let enough : n ≤ 2 ^ depth n =
          depth_reaches n top in subst (Heard (allgather_by n b) (depth n) r) e
          (bruck_heard (allgather_by n b) b n (depth n) short moved (depth n) r m (omega arith) hr (omega arith) h)

      go : (p < r) ⊎ (r ≤ p) → Heard (allgather_by n b) (depth n) r p
      go (inl h) = from (n - r + p) (omega arith) (past_last n r p hr hp)
      go (inr h) = from (p - r) (omega arith) (not_past n r p h hp)

-- the family of allgather serves each allgather
pub allgather_serves : (sig : Signature) (n : ℕ) → sig.kind ≡ Allgather → n ≤ 64 → IsNarrowFor sig n (allgather_family sig n) (depth n)
allgather_serves sig n kind top = record {
  serves = record {
    lawful = allgather_lawful n (block_len sig) top;
    takes_given = λ r h. takes r;
    gives_got = λ r h. sym (ap (λ k. got_by k sig.root n r (block_len sig) (row_len sig)) kind);
    has_value = λ given are bytes r h. allgather_value n (block_len sig) top given are.each (λ q l. are.long q l ∙ sym (takes q)) r h
        ∙ sym (ap (λ k. value_by k (unwrap_or sig.op Sum) sig.ty (block_len sig) sig.root given r) kind);
    hears = λ r p h need. allgather_hears n (block_len sig) top r p h (ltb-true p n (and_parts (ltb p n) (needs_of sig.kind sig.root r p) need).0);
  };
  narrow = narrow_family n (n * block_len sig + n * block_len sig) (λ r. front (block_len sig))
      (λ r. blocks_at (block_len sig) n n) (bruck_rounds (block_len sig) n 0 (depth n)) (lawful_columns n (block_len sig) top);
  few = few_exchanges n (n * block_len sig + n * block_len sig) (λ r. front (block_len sig)) (λ r. blocks_at (block_len sig) n n)
      (bruck_rounds (block_len sig) n 0 (depth n)) (depth n) (bruck_costs (block_len sig) n 0 (depth n));
}
  where
    takes : (r : ℕ) → block_len sig ≡ given_by sig.kind sig.root n r (block_len sig) (row_len sig)
    takes r = sym (ap (λ k. given_by k sig.root n r (block_len sig) (row_len sig)) kind)

-- the parts that the builder makes are the family's
pub allgather_parts : (sig : Signature) (n r len half : ℕ) (input output : Region) (rounds : List (List Action))
    → len ≡ block_len sig → half ≡ n * len → input ≡ front len → output ≡ blocks_at len n n
    → rounds ≡ rounds_of (bruck_rounds len n 0 (depth n)) r
    → ◌≡◌ {A = Parts} (record { size = half + half; input = input; output = output; rounds = rounds }) (allgather_family sig n r)
allgather_parts sig n r len half input output rounds e h i o s =
    (λ k. record { size = h k + h k; input = i k; output = o k; rounds = s k }) ∙ ap (λ b. allgather_by n b r) e
