-- the family of allgatherv, by a direct exchange
use Rattle.std.proofs.Common.{◌≡◌, ℕ, ◌+◌, ◌-◌, ◌<◌, ◌≤◌, List, [], ◌∷◌, length, None, refl, sym, ap, subst, ◌∙◌, arith, ltb, unwrap_or}
use Rattle.std.proofs.lemmas.Bool.{and_parts, ltb-true}
use Rattle.coll_kinds.specs.declared.signature.Signature.{Signature}
use Rattle.coll_kinds.specs.declared.kind.Kind.TheVariants.{Allgatherv}
use Rattle.coll_kinds.specs.declared.operation.Op.TheVariants.{Sum}
use Rattle.coll_kinds.specs.Common.{broken, block_len, row_len, total, given_by, got_by, max_len, needs_of}
use Rattle.coll_kinds.proofs.Lengths.{lengths_are_small}
use Rattle.coll_ops.specs.Values.{row_of, all_rows, value_by}
use Rattle.coll_sched.specs.Common.{front, read_of, lock_step, result_at, IsLawful}
use Rattle.coll_sched.proofs.Builders.{input_held}
use Rattle.coll_trees.proofs.Columns.{lawful_columns}
use Rattle.coll_trees.specs.Depths.{direct_bound}
use Rattle.coll_plans.specs.declared.direct_pattern.Pattern.TheVariants.{ToAll}
use Rattle.coll_plans.specs.DirectFamilies.{IsDirectFor, row_at, own_row, row_exchange, allgatherv_by, allgatherv_family}
use Rattle.coll_plans.proofs.DirectExchange.{IsRouted, exchange_column, arrives, hears}
use Rattle.coll_plans.proofs.DirectRowRegions.{row_within, rows_apart, read-rows}
use Rattle.coll_plans.proofs.DirectCosts.{direct_few}

-- all rows of a checked allgatherv are small together
pub rows_small : (sig : Signature) (n : ℕ) → sig.kind ≡ Allgatherv → broken sig n ≡ None → 0 < n → total (row_len sig) n ≤ max_len
rows_small sig n kind fits some = subst (λ k. got_by k sig.root n 0 (block_len sig) (row_len sig) ≤ max_len) kind (lengths_are_small sig n 0 fits some).1

module _ (rows : ℕ → ℕ) (n : ℕ) where
  -- the rows that a member gets lie before its own
  routed : IsRouted n (λ r. total rows n + rows r) ToAll (λ r p. own_row rows n r) (λ r q. row_at rows q)
  routed = record {
    same = λ q r. refl;
    from_inside = λ r p hr hp e. omega arith;
    into_inside = λ r q hr hq e. let l : total rows q + rows q ≤ total rows n = row_within rows q n hq in omega arith;
    sent_apart = λ r p q hp hq d e i x y z w. let l : total rows q + rows q ≤ total rows n = row_within rows q n hq in omega arith;
    got_apart = λ r p q hp hq d e h. rows_apart rows p q d;
  }

  allgatherv_lawful : IsLawful n (allgatherv_by rows n)
  allgatherv_lawful = lawful_columns n (allgatherv_by rows n) (row_exchange rows n ∷ []) (λ r. refl) (λ r h. omega arith) (λ r h. omega arith)
      (exchange_column n ToAll (λ r p. own_row rows n r) (λ r q. row_at rows q) (λ r. total rows n + rows r) routed, tt)

  -- each ends with all rows
  allgatherv_value : (given : List (List ℕ)) → length given ≡ n → ((r : ℕ) → r < n → length (row_of given r) ≡ rows r) → (r : ℕ)
      → r < n → result_at (allgatherv_by rows n) (row_of given) r ≡ all_rows given
  allgatherv_value given each long r low =
      let all : total rows n ≡ total rows (0 + length given) - 0 =
      (let z : n ≡ 0 + length given = omega (arith, each) in let e : total rows n ≡ total rows (0 + length given) = ap (total rows) z in omega (arith, e))
      in
      ap (λ l. read_of (lock_step (allgatherv_by rows n) (row_of given) 1 r) (front l)) all
      ∙ read-rows rows (lock_step (allgatherv_by rows n) (row_of given) 1 r) given 0
      (λ i h. ap (λ m. read_of (lock_step (allgatherv_by rows n) (row_of given) 1 r) (row_at rows m)) (let z : 0 + i ≡ i = omega arith in z)
      ∙ (arrives n ToAll (λ q p. own_row rows n q) (λ q p. row_at rows p) (allgatherv_by rows n) allgatherv_lawful (λ q. refl)
      (row_of given) long r i low (omega (arith, h, each)) refl
      ∙ input_held n (allgatherv_by rows n) allgatherv_lawful (row_of given) long i (omega (arith, h, each))))

-- the family of allgatherv serves each allgatherv
pub allgatherv_serves : (sig : Signature) (n : ℕ) → sig.kind ≡ Allgatherv → IsDirectFor sig n (allgatherv_family sig n) (direct_bound n)
allgatherv_serves sig n kind = record {
  serves = record {
    lawful = allgatherv_lawful (row_len sig) n;
    takes_given = λ r h. takes r;
    gives_got = λ r h. sym (ap (λ k. got_by k sig.root n r (block_len sig) (row_len sig)) kind);
    has_value = λ given are bytes r h. allgatherv_value (row_len sig) n given are.each (λ q l. are.long q l ∙ sym (takes q)) r h
        ∙ sym (ap (λ k. value_by k (unwrap_or sig.op Sum) sig.ty (block_len sig) sig.root given r) kind);
    hears = λ r p h need. let parts = and_parts (ltb p n) (needs_of sig.kind sig.root r p) need in
        hears n ToAll (λ q s. own_row (row_len sig) n q) (λ q s. row_at (row_len sig) s) (allgatherv_family sig n)
        (allgatherv_lawful (row_len sig) n) (λ q. refl) r p (ltb-true p n parts.0) refl;
  };
  few = direct_few n ToAll (λ r p. own_row (row_len sig) n r) (λ r q. row_at (row_len sig) q)
      (λ r. total (row_len sig) n + row_len sig r) (λ r. own_row (row_len sig) n r) (λ r. front (total (row_len sig) n)) [] tt;
}
  where
    takes : (r : ℕ) → row_len sig r ≡ given_by sig.kind sig.root n r (block_len sig) (row_len sig)
    takes r = sym (ap (λ k. given_by k sig.root n r (block_len sig) (row_len sig)) kind)
