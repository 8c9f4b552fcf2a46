-- A value reads what the needed members gave, and nothing else.
use Rattle.std.proofs.Common.{◌≡◌, ℕ, zero, suc, ◌+◌, ◌<◌, Bool, true, false, List, [], ◌∷◌, length, take, refl, arith, ap, sym, ◌∙◌, rules}
use Rattle.std.specs.Prelude.{◌&&◌, ◌==◌, nat_lt, unwrap_or, if◌then◌else◌}
use Rattle.std.proofs.lemmas.Bool.{and_from, or_left, lt-ltb, le-leb}
use Rattle.coll_kinds.specs.declared.datatype.Datatype.{Datatype}
use Rattle.coll_kinds.specs.declared.operation.Op.{Op}
use Rattle.coll_kinds.specs.declared.operation.Op.TheVariants.{Sum}
use Rattle.coll_kinds.specs.Common.{block_len, has_root, needs_of}
use Rattle.std.specs.Bool.{IsTrue}
use Rattle.coll_kinds.specs.declared.kind.Kind.TheVariants.{Barrier, Bcast, Gather, Scatter, Allgather, Allgatherv, Alltoall, Reduce, Allreduce}
use Rattle.coll_kinds.specs.declared.kind.Kind.TheVariants.{Rsblock, Scan, Exscan}
use Rattle.coll_kinds.specs.declared.kind.Kind.{Kind}
use Rattle.coll_ops.specs.Combinations.{combination}
use Rattle.coll_ops.specs.Values.{block, row_of, all_rows, value_by}
use Rattle.coll_ops.proofs.Given.{root-member}
use Rattle.std.specs.List.{flat_map}
use Rattle.coll_ops.specs.Laws.{ValuesReadNeeds}

-- lists of rows that agree place by place are one list
same_rows : (rows others : List (List ℕ)) → length rows ≡ length others → ((i : ℕ) → i < length rows → row_of rows i ≡ row_of others i) → rows ≡ others
same_rows [] [] long same = refl
same_rows [] (other ∷ others) long same = absurd (omega arith)
same_rows (row ∷ rows) [] long same = absurd (omega arith)
same_rows (row ∷ rows) (other ∷ others) long same =
    ap (λ first. first ∷ rows) (same 0 (omega arith)) ∙ ap (λ rest. other ∷ rest) (same_rows rows others (omega arith) (λ i within. same (suc i) (omega arith)))

-- the two lists of n rows agree on the members that r needs
abbrev Agree : Kind → ℕ → ℕ → ℕ → List (List ℕ) → List (List ℕ) → Type 0
Agree kind root n r given others = (p : ℕ) → IsTrue (nat_lt p n && needs_of kind root r p) → row_of given p ≡ row_of others p

-- lists that agree up to k have one front
same_front : (rows others : List (List ℕ)) (k : ℕ) → length rows ≡ length others
    → ((i : ℕ) → i < length rows → i < k → row_of rows i ≡ row_of others i) → take k rows ≡ take k others
same_front rows others zero long same = refl
same_front [] [] (suc k) long same = refl
same_front [] (other ∷ others) (suc k) long same = absurd (omega arith)
same_front (row ∷ rows) [] (suc k) long same = absurd (omega arith)
same_front (row ∷ rows) (other ∷ others) (suc k) long same =
    ap (λ first. first ∷ take k rows) (same 0 (omega arith) (omega arith))
    ∙ ap (λ rest. other ∷ rest) (same_front rows others k (omega arith) (λ i within below. same (suc i) (omega arith) (omega arith)))

value_by-agree : (kind : Kind) (op : Op) (ty : Datatype) (b root n r : ℕ) (given others : List (List ℕ)) →
    (has_root kind ≡ true → root < n) → r < n → length given ≡ n → length others ≡ n → Agree kind root n r given others →
    value_by kind op ty b root given r ≡ value_by kind op ty b root others r
value_by-agree Barrier op ty b root n r given others rooted member given_len others_len same = refl
value_by-agree Bcast op ty b root n r given others rooted member given_len others_len same =
    same root (and_from _ _ (lt-ltb root n (rooted refl)) (search rules))
value_by-agree Gather op ty b root n r given others rooted member given_len others_len same =
    at_root (r == root) refl
  where
    at_root : (t : Bool) → (r == root) ≡ t → (if r == root then all_rows given else []) ≡ (if r == root then all_rows others else [])
    at_root true e =
        ap (λ rows. if r == root then all_rows rows else [])
        (same_rows given others (given_len ∙ sym others_len) (λ i within. same i (and_from _ _ (lt-ltb i n (omega arith)) (or_left _ _ e))))
    at_root false e = rw e refl
value_by-agree Scatter op ty b root n r given others rooted member given_len others_len same =
    ap (block b r) (same root (and_from _ _ (lt-ltb root n (rooted refl)) (search rules)))
value_by-agree Allgather op ty b root n r given others rooted member given_len others_len same =
    ap all_rows (same_rows given others (given_len ∙ sym others_len) (λ i within. same i (and_from _ _ (lt-ltb i n (omega arith)) refl)))
value_by-agree Allgatherv op ty b root n r given others rooted member given_len others_len same =
    ap all_rows (same_rows given others (given_len ∙ sym others_len) (λ i within. same i (and_from _ _ (lt-ltb i n (omega arith)) refl)))
value_by-agree Alltoall op ty b root n r given others rooted member given_len others_len same =
    ap (flat_map (block b r)) (same_rows given others (given_len ∙ sym others_len) (λ i within. same i (and_from _ _ (lt-ltb i n (omega arith)) refl)))
value_by-agree Reduce op ty b root n r given others rooted member given_len others_len same =
    at_root (r == root) refl
  where
    at_root : (t : Bool) → (r == root) ≡ t → (if r == root then combination op ty given else []) ≡ (if r == root then combination op ty others else [])
    at_root true e =
        ap (λ rows. if r == root then combination op ty rows else [])
        (same_rows given others (given_len ∙ sym others_len) (λ i within. same i (and_from _ _ (lt-ltb i n (omega arith)) (or_left _ _ e))))
    at_root false e = rw e refl
value_by-agree Allreduce op ty b root n r given others rooted member given_len others_len same =
    ap (combination op ty) (same_rows given others (given_len ∙ sym others_len) (λ i within. same i (and_from _ _ (lt-ltb i n (omega arith)) refl)))
value_by-agree Rsblock op ty b root n r given others rooted member given_len others_len same =
    ap (λ rows. block b r (combination op ty rows))
    (same_rows given others (given_len ∙ sym others_len) (λ i within. same i (and_from _ _ (lt-ltb i n (omega arith)) refl)))
value_by-agree Scan op ty b root n r given others rooted member given_len others_len same =
    ap (combination op ty) (same_front given others (r + 1) (given_len ∙ sym others_len)
    (λ i within below. same i (and_from _ _ (lt-ltb i n (omega arith)) (le-leb i r (omega arith)))))
value_by-agree Exscan op ty b root n r given others rooted member given_len others_len same =
    ap (combination op ty) (same_front given others r (given_len ∙ sym others_len)
    (λ i within below. same i (and_from _ _ (lt-ltb i n (omega arith)) (lt-ltb i r below))))

pub values_read_needs : ValuesReadNeeds
values_read_needs sig n r given others fits member given_len others_len same =
    value_by-agree sig.kind (unwrap_or sig.op Sum) sig.ty (block_len sig) sig.root n r given others (root-member sig n fits) member given_len others_len same
