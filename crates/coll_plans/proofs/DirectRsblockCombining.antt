-- rounds that combine neighbouring blocks, from the last block down to the first
use Rattle.std.proofs.Common.{◌≡◌, ℕ, zero, suc, ◌+◌, ◌-◌, ◌*◌, ◌%◌, ◌<◌, ◌≤◌, inl, List, [], ◌∷◌, ◌++◌, length, drop, IsTrue, refl, sym, ap, subst}
use Rattle.std.proofs.Common.{◌∙◌, arith, append_assoc}
use Rattle.std.specs.List.{AllByRecursion}
use Rattle.coll_kinds.specs.declared.operation.Op.{Op}
use Rattle.coll_kinds.specs.declared.datatype.Datatype.{Datatype}
use Rattle.coll_kinds.specs.Common.{width, allowed}
use Rattle.coll_ops.specs.Combinations.{combined, combination}
use Rattle.coll_ops.specs.Values.{row_of}
use Rattle.coll_ops.proofs.RowLists.{combination-drop}
use Rattle.coll_sched.specs.declared.action.Action.{Action}
use Rattle.coll_sched.specs.declared.action.Action.TheVariants.{Combine}
use Rattle.coll_sched.specs.Common.{read_of, AllApart, writes, Family, actions_at, lock_step, IsLawful}
use Rattle.coll_sched.proofs.Rounds.{GivenFits}
use Rattle.coll_sched.proofs.Builders.{Has, round_held, round_kept}
use Rattle.coll_trees.specs.Columns.{rounds_of}
use Rattle.coll_trees.proofs.Columns.{column_of, IsLawfulColumn, IsLocalColumn}
use Rattle.coll_plans.specs.declared.direct_blocks.Blocks.{Blocks}
use Rattle.coll_plans.specs.DirectExchange.{place}
use Rattle.coll_plans.specs.DirectFamilies.{blocks_from, combine_at, combines_below}
use Rattle.coll_plans.proofs.DirectPlaces.{block_within, places_apart}

pub length-combines : (op : Op) (ty : Datatype) (at b k r : ℕ) → length (rounds_of (combines_below op ty (blocks_from at b) k) r) ≡ k
length-combines op ty at b zero r = refl
length-combines op ty at b (suc k) r = ap suc (length-combines op ty at b k r)

pub combines_local : (op : Op) (ty : Datatype) (at b k : ℕ) → AllByRecursion IsLocalColumn (combines_below op ty (blocks_from at b) k)
combines_local op ty at b zero = tt
combines_local op ty at b (suc k) = ((λ r. refl), combines_local op ty at b k)

-- one step of the builder's loop: what is pushed leaves what remains
pub combines_more : (op : Op) (ty : Datatype) (blocks : Blocks) (m k : ℕ) (so_far now all : List (List Action)) → m ≡ suc k
    → so_far ++ rounds_of (combines_below op ty blocks m) 0 ≡ all → now ≡ so_far ++ combine_at op ty blocks k 0 ∷ []
    → now ++ rounds_of (combines_below op ty blocks k) 0 ≡ all
combines_more op ty blocks m k so_far now all next e pushed =
    ap (λ xs. xs ++ rounds_of (combines_below op ty blocks k) 0) pushed
    ∙ (append_assoc so_far (combine_at op ty blocks k 0 ∷ []) (rounds_of (combines_below op ty blocks k) 0)
    ∙ (ap (λ j. so_far ++ rounds_of (combines_below op ty blocks j) 0) (sym next) ∙ e))

-- they are alike at all members
pub combines-same : (op : Op) (ty : Datatype) (blocks : Blocks) (k r : ℕ)
    → rounds_of (combines_below op ty blocks k) 0 ≡ rounds_of (combines_below op ty blocks k) r
combines-same op ty blocks zero r = refl
combines-same op ty blocks (suc k) r = ap (λ rest. combine_at op ty blocks k r ∷ rest) (combines-same op ty blocks k r)

-- a lawful round, where both blocks lie within the buffers
combine_column : (op : Op) (ty : Datatype) (n at b k : ℕ) (size : ℕ → ℕ) → IsTrue (allowed op ty) → b % width ty ≡ 0 → suc k < n
    → ((r : ℕ) → r < n → at + n * b ≤ size r) → IsLawfulColumn n size (combine_at op ty (blocks_from at b) k)
combine_column op ty n at b k size may whole low room = record {
  is_round = λ r h. record {
    fits = (
      let m : at + n * b ≤ size r = room r h in let x : k * b + b ≤ n * b =
          block_within k n b (omega arith) in let y : suc k * b + b ≤ n * b =
          block_within (suc k) n b low in (omega arith, omega arith, omega arith, refl, refl, may, whole),
      tt,
    );
    follows = (tt, tt);
  };
  peers = λ r h. (tt, tt);
  aligned = λ r p hr hp. refl;
}

pub combines_columns : (op : Op) (ty : Datatype) (n at b k : ℕ) (size : ℕ → ℕ) → IsTrue (allowed op ty) → b % width ty ≡ 0
    → k ≤ n - 1 → ((r : ℕ) → r < n → at + n * b ≤ size r) → AllByRecursion (IsLawfulColumn n size) (combines_below op ty (blocks_from at b) k)
combines_columns op ty n at b zero size may whole low room = tt
combines_columns op ty n at b (suc k) size may whole low room =
    (combine_column op ty n at b k size may whole (omega arith) room, combines_columns op ty n at b k size may whole (omega arith) room)

-- member r before round j: block k holds the combination of the rows from k on, and the blocks before it hold their rows
pub record Combines (op : Op) (ty : Datatype) (at b : ℕ) (buf : List ℕ) (rows : List (List ℕ)) (k : ℕ) : Type 0 where
  pub done : read_of buf (place (blocks_from at b) k) ≡ combination op ty (drop k rows)
  pub left : (i : ℕ) → i < k → read_of buf (place (blocks_from at b) i) ≡ row_of rows i

module _ (op : Op) (ty : Datatype) (n at b : ℕ) (f : Family) (lawful : IsLawful n f) (given : ℕ → List ℕ)
    (laid : GivenFits n f given) (r : ℕ) (member : r < n) (room : at + n * b ≤ (f r).size) (rows : List (List ℕ)) (each : length rows ≡ n) where
  -- one round takes block k in
  combine_step : (j k : ℕ) → suc k < n → actions_at f j r ≡ combine_at op ty (blocks_from at b) k r
      → Combines op ty at b (lock_step f given j r) rows (suc k) → Combines op ty at b (lock_step f given (suc j) r) rows k
  combine_step j k low acts before = record {
    done = round_held n f lawful given laid j r
        (Combine op ty (place (blocks_from at b) k) (place (blocks_from at b) (suc k)) (place (blocks_from at b) k)) (place (blocks_from at b) k) member
        (subst (λ xs. Has xs (Combine op ty (place (blocks_from at b) k) (place (blocks_from at b) (suc k)) (place (blocks_from at b) k)))
        (sym acts) (inl refl)) refl
        ∙ (ap (λ x. combined op ty x (read_of (lock_step f given j r) (place (blocks_from at b) (suc k)))) (before.left k (omega arith))
        ∙ (ap (combined op ty (row_of rows k)) before.done
        ∙ sym (combination-drop op ty rows k (suc k) (omega arith) (omega arith))));
    left = λ i h.
        let within : i * b + b ≤ n * b = block_within i n b (omega arith) in
        round_kept n f lawful given laid j r (place (blocks_from at b) i) member (omega arith)
        (subst (AllByRecursion (λ a. AllApart (writes a) (place (blocks_from at b) i ∷ []))) (sym acts) (((places_apart at b k i (omega arith), tt), tt), tt))
        ∙ before.left i (omega arith);
  }

  -- all of them leave the combination of all rows in the first block
  pub combines_all : (j k : ℕ) → k < n
      → ((i : ℕ) → i < k → actions_at f (j + i) r ≡ column_of (combines_below op ty (blocks_from at b) k) i r)
      → Combines op ty at b (lock_step f given j r) rows k → read_of (lock_step f given (j + k) r) (place (blocks_from at b) 0) ≡ combination op ty rows
  combines_all j zero low acts now = ap (λ m. read_of (lock_step f given m r) (place (blocks_from at b) 0)) (let z : j + 0 ≡ j = omega arith in z) ∙ now.done
  combines_all j (suc k) low acts now =
      ap (λ m. read_of (lock_step f given m r) (place (blocks_from at b) 0)) (let z : j + suc k ≡ suc j + k = omega arith in z)
      ∙ combines_all (suc j) k (omega arith) (λ i h. ap (λ m. actions_at f m r) (let z : suc j + i ≡ j + suc i = omega arith in z) ∙ acts (suc i) (omega arith))
      (combine_step j k low (ap (λ m. actions_at f m r) (let z : j ≡ j + 0 = omega arith in z) ∙ acts 0 (omega arith)) now)
