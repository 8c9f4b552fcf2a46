-- families that begin with the binomial tree to member 0
use Rattle.std.proofs.Common.{◌≡◌, ℕ, suc, ◌+◌, ◌-◌, ◌^◌, ◌<◌, ◌≤◌, min, List, ◌++◌, length, IsTrue, sym, ap, ◌∙◌, arith}
use Rattle.std.proofs.Math.Nat.{zero-mod}
use Rattle.coll_kinds.specs.declared.datatype.Datatype.{Datatype}
use Rattle.coll_kinds.specs.declared.operation.Op.{Op}
use Rattle.coll_kinds.specs.Checks.{allowed}
use Rattle.coll_ops.specs.Combinations.{combination}
use Rattle.coll_ops.specs.Values.{row_of}
use Rattle.coll_ops.specs.Laws.{IsRow}
use Rattle.coll_sched.specs.Common.{read_of, front, Family, actions_at, lock_step, Heard, IsLawful}
use Rattle.coll_sched.proofs.Rounds.{GivenFits}
use Rattle.coll_trees.specs.Columns.{Column}
use Rattle.coll_trees.specs.Depths.{depth}
use Rattle.coll_trees.specs.BinomialTreeReduce.{move_at, combine_at, reduce_tree_rounds}
use Rattle.coll_trees.proofs.Columns.{column_of, column-left, column-right}
use Rattle.coll_trees.proofs.Depths.{depth_reaches}
use Rattle.coll_trees.proofs.Spans.{span, span_all, associates}
use Rattle.coll_trees.proofs.BinomialTreeReduceRounds.{length-reduce_tree_rounds, reduce_tree_rounds-moves, reduce_tree_rounds-combines, fold_hears, fold_holds}

-- a family that begins with the tree to member 0 in buffers of two blocks
module _ (op : Op) (ty : Datatype) (b n : ℕ) (f : Family) (rest : List Column)
    (is : (j r : ℕ) → actions_at f j r ≡ column_of (reduce_tree_rounds op ty b n 0 (depth n) ++ rest) j r) where
  pub first_moves : (i r : ℕ) → i < depth n → actions_at f (i + i) r ≡ move_at b n (2 ^ i) r
  first_moves i r h =
      let l : length (reduce_tree_rounds op ty b n 0 (depth n)) ≡ depth n + depth n = length-reduce_tree_rounds op ty b n 0 (depth n) in
      is (i + i) r
      ∙ ap (λ (c : Column). c r) (column-left (reduce_tree_rounds op ty b n 0 (depth n)) rest (i + i) (omega arith)
      ∙ (reduce_tree_rounds-moves op ty b n 0 (depth n) i h ∙ ap (λ e. move_at b n (2 ^ e)) (let z : 0 + i ≡ i = omega arith in z)))

  pub first_combines : (i r : ℕ) → i < depth n → actions_at f (suc (i + i)) r ≡ combine_at op ty b n (2 ^ i) r
  first_combines i r h =
      let l : length (reduce_tree_rounds op ty b n 0 (depth n)) ≡ depth n + depth n = length-reduce_tree_rounds op ty b n 0 (depth n) in
      is (suc (i + i)) r
      ∙ ap (λ (c : Column). c r) (column-left (reduce_tree_rounds op ty b n 0 (depth n)) rest (suc (i + i)) (omega arith)
      ∙ (reduce_tree_rounds-combines op ty b n 0 (depth n) i h ∙ ap (λ e. combine_at op ty b n (2 ^ e)) (let z : 0 + i ≡ i = omega arith in z)))

  pub later : (i r : ℕ) → actions_at f (depth n + depth n + i) r ≡ column_of rest i r
  later i r =
      is (depth n + depth n + i) r
      ∙ ap (λ (c : Column). c r)
      (ap (λ l. column_of (reduce_tree_rounds op ty b n 0 (depth n) ++ rest) (l + i)) (sym (length-reduce_tree_rounds op ty b n 0 (depth n)))
      ∙ column-right (reduce_tree_rounds op ty b n 0 (depth n)) rest i)

  -- member 0 hears all
  pub first_hears : n ≤ 64 → (p : ℕ) → p < n → Heard f (depth n + depth n) 0 p
  first_hears top p h =
      let enough : n ≤ 2 ^ depth n = depth_reaches n top in
      fold_hears f op ty b n (depth n) first_moves first_combines (depth n) 0 p (omega arith) (zero-mod (2 ^ depth n)) (omega arith) h (omega arith)

  -- and holds the combination
  pub first_holds : 0 < n → n ≤ 64 → IsLawful n f → IsTrue (allowed op ty) → (given : List (List ℕ)) → length given ≡ n → GivenFits n f (row_of given) →
      ((p : ℕ) → p < n → IsRow ty (row_of given p) × (length (row_of given p) ≡ b)) → ((r : ℕ) → r < n → b + b ≤ (f r).size) →
      ((r : ℕ) → r < n → read_of (lock_step f (row_of given) 0 r) (front b) ≡ row_of given r) →
      read_of (lock_step f (row_of given) (depth n + depth n) 0) (front b) ≡ combination op ty given
  first_holds pos top lawful may given many laid rows room start =
      let enough : n ≤ 2 ^ depth n = depth_reaches n top in
      fold_holds f op ty b n (depth n) first_moves first_combines lawful (associates op ty may) (row_of given) laid rows room
      start (depth n) 0 (omega arith) pos (zero-mod (2 ^ depth n))
      ∙ (ap (span op ty (row_of given) 0) (let z : min (2 ^ depth n) (n - 0) ≡ length given = omega arith in z) ∙ span_all op ty given)
