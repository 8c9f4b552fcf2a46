-- the family of scan, by prefix doubling
use Rattle.std.proofs.Common.{◌≡◌, ℕ, suc, ◌+◌, ◌-◌, ◌%◌, ◌^◌, ◌<◌, ◌≤◌, Bool, true, false, inl, min, cond, ltb, leb, List, [], ◌∷◌, length, take}
use Rattle.std.proofs.Common.{Some, None, IsTrue, refl, sym, ap, subst, ◌∙◌, arith, unwrap_or, le-leb, leb-true}
use Rattle.std.proofs.lemmas.Bool.{and_parts, lt-leb}
use Rattle.std.specs.List.{AllByRecursion}
use Rattle.coll_kinds.specs.declared.signature.Signature.{Signature}
use Rattle.coll_kinds.specs.declared.kind.Kind.TheVariants.{Scan}
use Rattle.coll_kinds.specs.declared.operation.Op.{Op}
use Rattle.coll_kinds.specs.declared.operation.Op.TheVariants.{Sum}
use Rattle.coll_kinds.specs.declared.datatype.Datatype.{Datatype}
use Rattle.coll_kinds.specs.Common.{width, AreBytes, block_len, row_len, given_by, given_len, got_by, needs_of, needs, allowed, has_operation, broken}
use Rattle.coll_ops.specs.Combinations.{combination}
use Rattle.coll_ops.specs.Values.{row_of, value_by, value}
use Rattle.coll_ops.specs.Contributions.{AreGiven}
use Rattle.coll_ops.specs.Laws.{IsRow}
use Rattle.coll_sched.specs.declared.action.Action.{Action}
use Rattle.coll_sched.specs.declared.action.Action.TheVariants.{Combine}
use Rattle.coll_sched.specs.Common.{Parts, IsRound, read_of, front, behind, actions_at, lock_step, result_at, Heard, IsLawful}
use Rattle.coll_sched.proofs.Rounds.{GivenFits}
use Rattle.coll_sched.proofs.Builders.{Has, input_held}
use Rattle.coll_trees.specs.Columns.{Column, rounds_of}
use Rattle.coll_trees.specs.Depths.{depth}
use Rattle.coll_trees.specs.Trees.{IsNarrowFor}
use Rattle.coll_trees.proofs.Checked.{checked, operation_allowed, block_whole, IsRow-block}
use Rattle.coll_trees.proofs.Columns.{IsColumn, IsLocalColumn, round-column, length-rounds, lawful_family, narrow_family, few_exchanges}
use Rattle.coll_trees.proofs.Depths.{depth_reaches}
use Rattle.coll_trees.proofs.Spans.{span, associates}
use Rattle.coll_plans.specs.PrefixDoubling.{shift, join, doubling, scan_family}
use Rattle.coll_plans.proofs.LocalRounds.{AreLocal, local_column, is_local_column}
use Rattle.coll_plans.proofs.PrefixDoublingRounds.{length-doubling, shift_at, join_at, doubling_columns, doubling_costs, range_heard, range_holds, span_first}

-- the second round of a step, by whether the member has received
abbrev join_by : Op → Datatype → ℕ → Bool → List Action
join_by op ty b u = cond u (Combine op ty (behind b) (front b) (front b) ∷ []) []

join_round : (op : Op) (ty : Datatype) (b : ℕ) (u : Bool) → b % width ty ≡ 0 → IsTrue (allowed op ty) → IsRound (b + b) (join_by op ty b u)
join_round op ty b true fit may = record { fits = ((omega arith, omega arith, omega arith, refl, refl, may, fit), tt); follows = (tt, tt) }
join_round op ty b false fit may = record { fits = tt; follows = tt }

join_local : (op : Op) (ty : Datatype) (b : ℕ) (u : Bool) → AreLocal (join_by op ty b u)
join_local op ty b true = (tt, tt)
join_local op ty b false = tt

join_column : (op : Op) (ty : Datatype) (b n : ℕ) → b % width ty ≡ 0 → IsTrue (allowed op ty) → (s : ℕ) → IsColumn n (b + b) (join op ty b s)
join_column op ty b n fit may s = local_column n (b + b) (join op ty b s) (λ r. join_local op ty b (leb s r)) (λ r low. join_round op ty b (leb s r) fit may)

join-free : (op : Op) (ty : Datatype) (b s : ℕ) → IsLocalColumn (join op ty b s)
join-free op ty b s = is_local_column (join op ty b s) (λ r. join_local op ty b (leb s r))

-- the member received, or did not
join-some : (op : Op) (ty : Datatype) (b s r : ℕ) → s ≤ r → join op ty b s r ≡ Combine op ty (behind b) (front b) (front b) ∷ []
join-some op ty b s r h = ap (join_by op ty b) (le-leb s r h)

join-none : (op : Op) (ty : Datatype) (b s r : ℕ) → r < s → join op ty b s r ≡ []
join-none op ty b s r h = ap (join_by op ty b) (lt-leb s r h)

module _ (sig : Signature) (n : ℕ) (kind : sig.kind ≡ Scan) (top : n ≤ 64) (may : IsTrue (allowed (unwrap_or sig.op Sum) sig.ty)) where
  abbrev op : Op
  op = unwrap_or sig.op Sum

  abbrev b : ℕ
  b = block_len sig

  abbrev columns : List Column
  columns = doubling b n (join op sig.ty b) 0 (depth n)

  scan_columns : AllByRecursion (IsColumn n (b + b)) columns
  scan_columns = doubling_columns b n (join op sig.ty b) (b + b) (omega arith) (join_column op sig.ty b n (block_whole sig) may) 0 (depth n)

  scan_lawful : IsLawful n (scan_family sig n)
  scan_lawful = lawful_family n (b + b) (λ r. front b) (λ r. front b) columns (λ r h. omega arith) (λ r h. omega arith) scan_columns

  scan_length : (r : ℕ) → length (scan_family sig n r).rounds ≡ depth n + depth n
  scan_length r = length-rounds columns r ∙ length-doubling b n (join op sig.ty b) 0 (depth n)

  moved : (i r : ℕ) → i < depth n → actions_at (scan_family sig n) (i + i) r ≡ shift b n (2 ^ i) r
  moved i r h = round-column columns (i + i) r ∙ shift_at b n (join op sig.ty b) (depth n) i r h

  then_joined : (i r : ℕ) → i < depth n → actions_at (scan_family sig n) (suc (i + i)) r ≡ join op sig.ty b (2 ^ i) r
  then_joined i r h = round-column columns (suc (i + i)) r ∙ join_at b n (join op sig.ty b) (depth n) i r h

  takes : (r : ℕ) → b ≡ given_len sig n r
  takes r = sym (ap (λ k. given_by k sig.root n r b (row_len sig)) kind)

  module _ (given : List (List ℕ)) (are : AreGiven sig n given) (bytes : (r : ℕ) → r < n → AreBytes (row_of given r)) where
    laid : GivenFits n (scan_family sig n) (row_of given)
    laid r h = are.long r h ∙ sym (takes r)

    rows : (p : ℕ) → p < n → IsRow sig.ty (row_of given p) × (length (row_of given p) ≡ b)
    rows p h = (IsRow-block sig (row_of given p) (laid p h) (bytes p h), laid p h)

    holds : (r : ℕ) → r < n
        → read_of (lock_step (scan_family sig n) (row_of given) (depth n + depth n) r) (front b)
        ≡ span op sig.ty (row_of given) (suc r - min (2 ^ depth n) (suc r)) (min (2 ^ depth n) (suc r))
    holds r h =
        range_holds (scan_family sig n) b n (depth n) moved scan_lawful op sig.ty (associates op sig.ty may) (row_of given) laid rows (λ p k. omega arith)
        (λ p k. input_held n (scan_family sig n) scan_lawful (row_of given) laid p k)
        (λ i p low near. subst (λ xs. Has xs (Combine op sig.ty (behind b) (front b) (front b)))
        (sym (then_joined i p low ∙ join-some op sig.ty b (2 ^ i) p near)) (inl refl))
        (λ i p low near. then_joined i p low ∙ join-none op sig.ty b (2 ^ i) p near)
        (depth n) r (omega arith) h

    scan_value : (r : ℕ) → r < n → result_at (scan_family sig n) (row_of given) r ≡ value sig given r
    scan_value r h =
        let enough : n ≤ 2 ^ depth n = depth_reaches n top in
        let all : suc r ≡ min (2 ^ depth n) (suc r) = omega arith in
        let each : length given ≡ n = are.each in
        ap (λ j. read_of (lock_step (scan_family sig n) (row_of given) j r) (front b)) (scan_length r)
        ∙ (holds r h
        ∙ (sym (ap (λ m. span op sig.ty (row_of given) (suc r - m) m) all)
        ∙ (ap (λ k. span op sig.ty (row_of given) k (suc r)) (let z : suc r - suc r ≡ 0 = omega arith in z)
        ∙ (span_first op sig.ty given (suc r) (omega arith)
        ∙ (ap (λ k. combination op sig.ty (take k given)) (let z : suc r ≡ r + 1 = omega arith in z)
        ∙ sym (ap (λ k. value_by k op sig.ty b sig.root given r) kind))))))

  scan_hears : (r p : ℕ) → r < n → needs sig n r p ≡ true → Heard (scan_family sig n) (length (scan_family sig n r).rounds) r p
  scan_hears r p h need =
      let parts = and_parts (ltb p n) (needs_of sig.kind sig.root r p) need in
      let below : p ≤ r = leb-true p r (sym (ap (λ k. needs_of k sig.root r p) kind) ∙ parts.1) in
      let enough : n ≤ 2 ^ depth n = depth_reaches n top in
      subst (λ j. Heard (scan_family sig n) j r p) (sym (scan_length r))
      (range_heard (scan_family sig n) b n (depth n) moved (depth n) r p (omega arith) below (omega arith))

  scan_narrow : IsNarrowFor sig n (scan_family sig n) (depth n)
  scan_narrow = record {
    serves = record {
      lawful = scan_lawful;
      takes_given = λ r h. takes r;
      gives_got = λ r h. sym (ap (λ k. got_by k sig.root n r b (row_len sig)) kind);
      has_value = scan_value;
      hears = scan_hears;
    };
    narrow = narrow_family n (b + b) (λ r. front b) (λ r. front b) columns scan_columns;
    few = few_exchanges n (b + b) (λ r. front b) (λ r. front b) columns (depth n)
        (doubling_costs b n (join op sig.ty b) (join-free op sig.ty b) 0 (depth n));
  }

-- the family of scan serves each checked scan
pub scan_serves : (sig : Signature) (n : ℕ) → broken sig n ≡ None → sig.kind ≡ Scan → n ≤ 64 → IsNarrowFor sig n (scan_family sig n) (depth n)
scan_serves sig n h kind top = scan_narrow sig n kind top (operation_allowed sig n (checked sig n h) (ap has_operation kind))

-- the parts that the builder makes are the family's
pub scan_parts : (sig : Signature) (n r len : ℕ) (op : Op) (rounds : List (List Action)) → len ≡ block_len sig → sig.op ≡ Some op
    → rounds ≡ rounds_of (doubling len n (join op sig.ty len) 0 (depth n)) r
    → ◌≡◌ {A = Parts} (record { size = len + len; input = front len; output = front len; rounds = rounds }) (scan_family sig n r)
scan_parts sig n r len op rounds e o s =
    let op_is : op ≡ unwrap_or sig.op Sum = sym (ap (λ x. unwrap_or x Sum) o) in
    let s2 : rounds ≡ rounds_of (doubling (block_len sig) n (join (unwrap_or sig.op Sum) sig.ty (block_len sig)) 0 (depth n)) r =
    s ∙ (ap (λ l. rounds_of (doubling l n (join op sig.ty l) 0 (depth n)) r) e
    ∙ ap (λ x. rounds_of (doubling (block_len sig) n (join x sig.ty (block_len sig)) 0 (depth n)) r) op_is) in
    λ k. record { size = e k + e k; input = front (e k); output = front (e k); rounds = s2 k }
