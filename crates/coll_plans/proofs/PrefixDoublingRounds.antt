-- prefix doubling: the rounds are lawful, and after i steps each member holds the combination of the 2 ^ i rows that end
-- with its own, and has heard their members
use Rattle.std.proofs.Common.{◌≡◌, ℕ, zero, suc, ◌+◌, ◌-◌, ◌^◌, ◌<◌, ◌≤◌, ◌⊎◌, inl, inr, Bool, true, false, min, cond, eqb, ltb, leb, List, [], ◌∷◌}
use Rattle.std.proofs.Common.{length, take, Option, Some, None, refl, sym, ap, subst, ◌∙◌, arith, eq-eqb, ne_eqb, lt-ltb, le-leb, ltb-true, pow-suc}
use Rattle.std.proofs.Common.{pow_pos, count_by}
use Rattle.std.proofs.lemmas.Bool.{cases_eq, cases_lt, lt-leb}
use Rattle.std.proofs.lemmas.List.{length-take-le}
use Rattle.std.specs.List.{AllByRecursion}
use Rattle.coll_kinds.specs.declared.operation.Op.{Op}
use Rattle.coll_kinds.specs.declared.datatype.Datatype.{Datatype}
use Rattle.coll_ops.specs.Combinations.{combined, combination}
use Rattle.coll_ops.specs.Values.{row_of}
use Rattle.coll_ops.specs.Laws.{IsRow}
use Rattle.coll_sched.specs.declared.region.Region.{Region}
use Rattle.coll_sched.specs.declared.action.Action.{Action}
use Rattle.coll_sched.specs.declared.action.Action.TheVariants.{Send, Combine, Recv}
use Rattle.coll_sched.specs.Common.{Inside, Apart, read_of, front, behind, IsAmong, AllApart, writes, IsRound, Family, actions_at, in_link, out_link}
use Rattle.coll_sched.specs.Common.{len_of, lock_step, Heard, IsLawful, is_send, is_recv}
use Rattle.coll_sched.proofs.Rounds.{GivenFits}
use Rattle.coll_sched.proofs.Builders.{Has, receives_has, round_held, round_kept, message_is}
use Rattle.coll_trees.specs.Columns.{Column}
use Rattle.coll_trees.proofs.Columns.{IsColumn, IsLocalColumn, column_of, Costs, free, local_round, exchange}
use Rattle.coll_trees.proofs.Spans.{span, span_all, Associates, span_join}
use Rattle.coll_plans.specs.PrefixDoubling.{shift, doubling}

-- the round of a shift, by whether the member sends and whether it receives
abbrev receipt_by : ℕ → ℕ → ℕ → Bool → List Action
receipt_by b s r u = cond u (Recv (r - s) (behind b) ∷ []) []

abbrev shift_by : ℕ → ℕ → ℕ → Bool → Bool → List Action
shift_by b s r t u = cond t (Send (r + s) (front b) ∷ receipt_by b s r u) (receipt_by b s r u)

shift_round : (size b s r : ℕ) (t u : Bool) → b + b ≤ size → IsRound size (shift_by b s r t u)
shift_round size b s r true true h = record {
  fits = (omega arith, (omega arith, tt));
  follows = (
    (
      record { in_order = omega arith; other_peer = tt; read_later = tt; read_before = (((λ k x y z w. omega arith), tt), tt); both_written = tt },
      tt,
    ),
    (tt, tt),
  );
}
shift_round size b s r true false h = record { fits = (omega arith, tt); follows = (tt, tt) }
shift_round size b s r false true h = record { fits = (omega arith, tt); follows = (tt, tt) }
shift_round size b s r false false h = record { fits = tt; follows = tt }

shift_among : (b n s r : ℕ) (t u : Bool) → r < n → (t ≡ true → r + s < n) → AllByRecursion (IsAmong n) (shift_by b s r t u)
shift_among b n s r true true low h = (h refl, (omega arith, tt))
shift_among b n s r true false low h = (h refl, tt)
shift_among b n s r false true low h = (omega arith, tt)
shift_among b n s r false false low h = tt

one_move : (b s r : ℕ) (t u : Bool) → (count_by is_send (shift_by b s r t u) ≤ 1) × (count_by is_recv (shift_by b s r t u) ≤ 1)
one_move b s r true true = (omega arith, omega arith)
one_move b s r true false = (omega arith, omega arith)
one_move b s r false true = (omega arith, omega arith)
one_move b s r false false = (omega arith, omega arith)

in_link-shift : (b s r p : ℕ) (t u : Bool) → in_link p (shift_by b s r t u) ≡ cond u (cond (eqb (r - s) p) (Some (behind b)) None) None
in_link-shift b s r p true true = refl
in_link-shift b s r p true false = refl
in_link-shift b s r p false true = refl
in_link-shift b s r p false false = refl

out_link-shift : (b s r p : ℕ) (t u : Bool) → out_link p (shift_by b s r t u) ≡ cond t (cond (eqb (r + s) p) (Some (front b)) None) None
out_link-shift b s r p true true = refl
out_link-shift b s r p true false = refl
out_link-shift b s r p false true = refl
out_link-shift b s r p false false = refl

-- r receives of the member that sends to it
shift_aligned : (b n s r p : ℕ) → r < n → p < n → len_of (in_link p (shift b n s r)) ≡ len_of (out_link r (shift b n s p))
shift_aligned b n s r p hr hp =
    ap len_of (in_link-shift b s r p (ltb (r + s) n) (leb s r))
    ∙ (go (cases_eq (p + s) r) (cases_lt r s) ∙ sym (ap len_of (out_link-shift b s p r (ltb (p + s) n) (leb s p))))
  where
    into : Bool → Bool → Option Region
    into u v = cond u (cond v (Some (behind b)) None) None

    from : Bool → Bool → Option Region
    from t v = cond t (cond v (Some (front b)) None) None

    none_into : (u : Bool) → into u false ≡ None
    none_into true = refl
    none_into false = refl

    none_from : (t : Bool) → from t false ≡ None
    none_from true = refl
    none_from false = refl

    go : (p + s ≡ r) ⊎ (p + s ≡ r → ⊥) → (r < s) ⊎ (s ≤ r) → len_of (into (leb s r) (eqb (r - s) p)) ≡ len_of (from (ltb (p + s) n) (eqb (p + s) r))
    go (inl e) (inl h) = absurd (omega arith)
    go (inl e) (inr h) =
        ap (λ u. len_of (into u (eqb (r - s) p))) (le-leb s r h) ∙ (ap (λ v. len_of (into true v)) (eq-eqb (r - s) p (omega arith))
        ∙ (sym (ap (λ v. len_of (from true v)) (eq-eqb (p + s) r e)) ∙ sym (ap (λ t. len_of (from t (eqb (p + s) r))) (lt-ltb (p + s) n (omega arith)))))
    go (inr d) (inl h) =
        ap (λ u. len_of (into u (eqb (r - s) p))) (lt-leb s r h)
        ∙ sym (ap (λ v. len_of (from (ltb (p + s) n) v)) (ne_eqb (p + s) r d) ∙ ap len_of (none_from (ltb (p + s) n)))
    go (inr d) (inr h) =
        ap (λ v. len_of (into (leb s r) v)) (ne_eqb (r - s) p (λ e. d (omega arith))) ∙ (ap len_of (none_into (leb s r))
        ∙ sym (ap (λ v. len_of (from (ltb (p + s) n) v)) (ne_eqb (p + s) r d) ∙ ap len_of (none_from (ltb (p + s) n))))

pub shift_column : (n size b s : ℕ) → b + b ≤ size → IsColumn n size (shift b n s)
shift_column n size b s h = record {
  is_round = λ r low. shift_round size b s r (ltb (r + s) n) (leb s r) h;
  peers = λ r low. shift_among b n s r (ltb (r + s) n) (leb s r) low (λ e. ltb-true (r + s) n e);
  aligned = λ r p hr hp. shift_aligned b n s r p hr hp;
  one_send = λ r low. (one_move b s r (ltb (r + s) n) (leb s r)).0;
  one_recv = λ r low. (one_move b s r (ltb (r + s) n) (leb s r)).1;
}

-- who sends and who receives
sends_by : (b s r : ℕ) (u : Bool) → Has (shift_by b s r true u) (Send (r + s) (front b))
sends_by b s r u = inl refl

receives_by : (b s r : ℕ) (t : Bool) → Has (shift_by b s r t true) (Recv (r - s) (behind b))
receives_by b s r true = inr (inl refl)
receives_by b s r false = inl refl

shift_sends : (b n s r : ℕ) → r + s < n → Has (shift b n s r) (Send (r + s) (front b))
shift_sends b n s r h = subst (λ t. Has (shift_by b s r t (leb s r)) (Send (r + s) (front b))) (sym (lt-ltb (r + s) n h)) (sends_by b s r (leb s r))

shift_receives : (b n s r : ℕ) → s ≤ r → Has (shift b n s r) (Recv (r - s) (behind b))
shift_receives b n s r h =
    subst (λ u. Has (shift_by b s r (ltb (r + s) n) u) (Recv (r - s) (behind b))) (sym (le-leb s r h)) (receives_by b s r (ltb (r + s) n))

-- a shift writes nothing but the second block
shift_keeps : (b s r : ℕ) (g : Region) (t u : Bool) → Apart (behind b) g → AllByRecursion (λ a. AllApart (writes a) (g ∷ [])) (shift_by b s r t u)
shift_keeps b s r g true true h = (tt, (((h, tt), tt), tt))
shift_keeps b s r g true false h = (tt, tt)
shift_keeps b s r g false true h = (((h, tt), tt), tt)
shift_keeps b s r g false false h = tt

module _ (b n : ℕ) (joins : ℕ → Column) where
  pub length-doubling : (k c : ℕ) → length (doubling b n joins k c) ≡ c + c
  length-doubling k zero = refl
  length-doubling k (suc c) = let e : length (doubling b n joins (suc k) c) ≡ c + c = length-doubling (suc k) c in omega arith

  doubling-shifts : (k c i : ℕ) → i < c → column_of (doubling b n joins k c) (i + i) ≡ shift b n (2 ^ (k + i))
  doubling-shifts k zero i h = absurd (omega arith)
  doubling-shifts k (suc c) zero h = ap (λ e. shift b n (2 ^ e)) (let z : k ≡ k + 0 = omega arith in z)
  doubling-shifts k (suc c) (suc i) h =
      ap (column_of (doubling b n joins k (suc c))) (let e : suc i + suc i ≡ suc (suc (i + i)) = omega arith in e)
      ∙ (doubling-shifts (suc k) c i (omega arith) ∙ ap (λ e. shift b n (2 ^ e)) (let z : suc k + i ≡ k + suc i = omega arith in z))

  doubling-joins : (k c i : ℕ) → i < c → column_of (doubling b n joins k c) (suc (i + i)) ≡ joins (2 ^ (k + i))
  doubling-joins k zero i h = absurd (omega arith)
  doubling-joins k (suc c) zero h = ap (λ e. joins (2 ^ e)) (let z : k ≡ k + 0 = omega arith in z)
  doubling-joins k (suc c) (suc i) h =
      ap (column_of (doubling b n joins k (suc c))) (let e : suc (suc i + suc i) ≡ suc (suc (suc (i + i))) = omega arith in e)
      ∙ (doubling-joins (suc k) c i (omega arith) ∙ ap (λ e. joins (2 ^ e)) (let z : suc k + i ≡ k + suc i = omega arith in z))

  -- step i begins with the shift at distance 2 ^ i, and then what came joins
  pub shift_at : (c i r : ℕ) → i < c → column_of (doubling b n joins 0 c) (i + i) r ≡ shift b n (2 ^ i) r
  shift_at c i r h = ap (λ (column : Column). column r) (doubling-shifts 0 c i h ∙ ap (λ e. shift b n (2 ^ e)) (let z : 0 + i ≡ i = omega arith in z))

  pub join_at : (c i r : ℕ) → i < c → column_of (doubling b n joins 0 c) (suc (i + i)) r ≡ joins (2 ^ i) r
  join_at c i r h = ap (λ (column : Column). column r) (doubling-joins 0 c i h ∙ ap (λ e. joins (2 ^ e)) (let z : 0 + i ≡ i = omega arith in z))

  pub doubling_columns : (size : ℕ) → b + b ≤ size → ((s : ℕ) → IsColumn n size (joins s)) → (k c : ℕ)
      → AllByRecursion (IsColumn n size) (doubling b n joins k c)
  doubling_columns size h each k zero = tt
  doubling_columns size h each k (suc c) = (shift_column n size b (2 ^ k) h, (each (2 ^ k), doubling_columns size h each (suc k) c))

  pub doubling_costs : ((s : ℕ) → IsLocalColumn (joins s)) → (k c : ℕ) → Costs (doubling b n joins k c) c
  doubling_costs each k zero = free
  doubling_costs each k (suc c) = exchange (local_round (each (2 ^ k)) (doubling_costs each (suc k) c))

-- a family whose step i begins with the shift at distance 2 ^ i
module _ (f : Family) (b n d : ℕ) (moved : (i r : ℕ) → i < d → actions_at f (i + i) r ≡ shift b n (2 ^ i) r) where
  receives : (i r : ℕ) → i < d → 2 ^ i ≤ r → Has (actions_at f (i + i) r) (Recv (r - 2 ^ i) (behind b))
  receives i r low h = subst (λ xs. Has xs (Recv (r - 2 ^ i) (behind b))) (sym (moved i r low)) (shift_receives b n (2 ^ i) r h)

  sends : (i r p : ℕ) → i < d → p + 2 ^ i ≡ r → r < n → Has (actions_at f (i + i) p) (Send r (front b))
  sends i r p low e h =
      subst (λ q. Has (actions_at f (i + i) p) (Send q (front b))) e
      (subst (λ xs. Has xs (Send (p + 2 ^ i) (front b))) (sym (moved i p low)) (shift_sends b n (2 ^ i) p (omega arith)))

  pub range_heard : (i r p : ℕ) → i ≤ d → p ≤ r → r < p + 2 ^ i → Heard f (i + i) r p
  range_heard zero r p low h near = omega arith
  range_heard (suc i) r p low h near =
      subst (λ j. Heard f j r p) (let e : suc (suc (i + i)) ≡ suc i + suc i = omega arith in e)
      (inl (go (λ q x y. range_heard i q p (omega arith) x y) (cases_lt r (p + 2 ^ i))))
    where
      go : ((q : ℕ) → p ≤ q → q < p + 2 ^ i → Heard f (i + i) q p) → (r < p + 2 ^ i) ⊎ (p + 2 ^ i ≤ r) → Heard f (suc (i + i)) r p
      go more (inl x) = inl (more r h x)
      go more (inr x) = inr (
        r - 2 ^ i,
        receives_has (actions_at f (i + i) r) (r - 2 ^ i) (behind b) (receives i r (omega arith) (omega arith)),
        more (r - 2 ^ i) (omega arith) (omega (arith, pow-suc 2 i)),
      )

  module _ (lawful : IsLawful n f) (op : Op) (ty : Datatype) (assoc : Associates op ty) (given : ℕ → List ℕ) (laid : GivenFits n f given)
      (rows : (p : ℕ) → p < n → IsRow ty (given p) × (length (given p) ≡ b)) (room : (r : ℕ) → r < n → b + b ≤ (f r).size)
      (start : (r : ℕ) → r < n → read_of (lock_step f given 0 r) (front b) ≡ given r)
      (joined : (i r : ℕ) → i < d → 2 ^ i ≤ r → Has (actions_at f (suc (i + i)) r) (Combine op ty (behind b) (front b) (front b)))
      (rested : (i r : ℕ) → i < d → r < 2 ^ i → actions_at f (suc (i + i)) r ≡ []) where
    -- the shift brings the block of the member below
    pub came : (i r : ℕ) → i < d → r < n → 2 ^ i ≤ r
        → read_of (lock_step f given (suc (i + i)) r) (behind b) ≡ read_of (lock_step f given (i + i) (r - 2 ^ i)) (front b)
    came i r h low near =
        round_held n f lawful given laid (i + i) r (Recv (r - 2 ^ i) (behind b)) (behind b) low (receives i r h near) refl
        ∙ message_is n f lawful given laid (i + i) r (r - 2 ^ i) (front b) (omega arith) (sends i r (r - 2 ^ i) h (omega arith) low)

    -- and leaves the others
    pub shift_kept : (i r : ℕ) (g : Region) → i < d → r < n → Inside (f r).size g → Apart (behind b) g
        → read_of (lock_step f given (suc (i + i)) r) g ≡ read_of (lock_step f given (i + i) r) g
    shift_kept i r g h low inside apart =
        round_kept n f lawful given laid (i + i) r g low inside
        (subst (AllByRecursion (λ a. AllApart (writes a) (g ∷ []))) (sym (moved i r h)) (shift_keeps b (2 ^ i) r g (ltb (r + 2 ^ i) n) (leb (2 ^ i) r) apart))

    -- a member with nobody that far below keeps all through the step
    pub step_kept : (i r : ℕ) (g : Region) → i < d → r < n → r < 2 ^ i → Inside (f r).size g → Apart (behind b) g
        → read_of (lock_step f given (suc (suc (i + i))) r) g ≡ read_of (lock_step f given (i + i) r) g
    step_kept i r g h low near inside apart =
        round_kept n f lawful given laid (suc (i + i)) r g low inside
        (subst (AllByRecursion (λ a. AllApart (writes a) (g ∷ []))) (sym (rested i r h near)) tt)
        ∙ shift_kept i r g h low inside apart

    front_in : (r : ℕ) → r < n → Inside (f r).size (front b)
    front_in r low = let z : b + b ≤ (f r).size = room r low in omega arith

    -- after i steps
    pub range_holds : (i r : ℕ) → i ≤ d → r < n
        → read_of (lock_step f given (i + i) r) (front b) ≡ span op ty given (suc r - min (2 ^ i) (suc r)) (min (2 ^ i) (suc r))
    range_holds zero r h low =
        start r low
        ∙ (ap given (let k : r ≡ suc r - 1 = omega arith in k) ∙ ap (λ m. span op ty given (suc r - m) m) (let k : 1 ≡ min (2 ^ 0) (suc r) = omega arith in k))
    range_holds (suc i) r h low =
        ap (λ j. read_of (lock_step f given j r) (front b)) (let k : suc i + suc i ≡ suc (suc (i + i)) = omega arith in k)
        ∙ go (pow_pos i) (λ q x. range_holds i q (omega arith) x) (cases_lt r (2 ^ i))
      where
        same : {k l m t : ℕ} → k ≡ l → m ≡ t → span op ty given k m ≡ span op ty given l t
        same e g = λ x. span op ty given (e x) (g x)

        go : 0 < 2 ^ i → ((q : ℕ) → q < n → read_of (lock_step f given (i + i) q) (front b)
            ≡ span op ty given (suc q - min (2 ^ i) (suc q)) (min (2 ^ i) (suc q)))
            → (r < 2 ^ i) ⊎ (2 ^ i ≤ r)
            → read_of (lock_step f given (suc (suc (i + i))) r) (front b) ≡ span op ty given (suc r - min (2 ^ suc i) (suc r)) (min (2 ^ suc i) (suc r))
        go pos before (inl x) =
            step_kept i r (front b) (omega arith) low x (front_in r low) (λ k y z v w. omega arith)
            ∙ (before r low ∙ ap (λ m. span op ty given (suc r - m) m)
            (let k : min (2 ^ i) (suc r) ≡ min (2 ^ suc i) (suc r) = omega (arith, pow-suc 2 i) in k))
        go pos before (inr x) =
            let q : ℕ = r - 2 ^ i in
            let m : ℕ = min (2 ^ i) (suc (r - 2 ^ i)) in
            round_held n f lawful given laid (suc (i + i)) r (Combine op ty (behind b) (front b) (front b)) (front b) low (joined i r (omega arith) x) refl
            ∙ (ap (λ l. combined op ty l (read_of (lock_step f given (suc (i + i)) r) (front b)))
            (came i r (omega arith) low x ∙ before (r - 2 ^ i) (omega arith))
            ∙ (ap (combined op ty (span op ty given (suc (r - 2 ^ i) - min (2 ^ i) (suc (r - 2 ^ i))) (min (2 ^ i) (suc (r - 2 ^ i)))))
            (shift_kept i r (front b) (omega arith) low (front_in r low) (λ k y z v w. omega arith)
            ∙ (before r low ∙ same (let k : suc r - min (2 ^ i) (suc r)
            ≡ suc (r - 2 ^ i) - min (2 ^ i) (suc (r - 2 ^ i)) + min (2 ^ i) (suc (r - 2 ^ i)) = omega arith in k)
            (let k : min (2 ^ i) (suc r) ≡ 2 ^ i = omega arith in k)))
            ∙ (span_join op ty b n assoc given rows (suc (r - 2 ^ i) - min (2 ^ i) (suc (r - 2 ^ i)))
            (min (2 ^ i) (suc (r - 2 ^ i))) (2 ^ i) (min (2 ^ i) (suc (r - 2 ^ i)) + 2 ^ i) (omega arith) pos refl (omega arith)
            ∙ same (omega (arith, pow-suc 2 i)) (omega (arith, pow-suc 2 i)))))

-- the span of the first rows is the combination of their list
span_agrees : (op : Op) (ty : Datatype) (xs ys : ℕ → List ℕ) (k c : ℕ) → ((i : ℕ) → i < k + c → xs i ≡ ys i) → span op ty xs k c ≡ span op ty ys k c
span_agrees op ty xs ys k zero h = refl
span_agrees op ty xs ys k (suc zero) h = h k (omega arith)
span_agrees op ty xs ys k (suc (suc c)) h =
    ap (λ l. combined op ty l (span op ty xs (suc k) (suc c))) (h k (omega arith))
    ∙ ap (combined op ty (ys k)) (span_agrees op ty xs ys (suc k) (suc c) (λ i x. h i (omega arith)))

row_of-take : (c : ℕ) (given : List (List ℕ)) (i : ℕ) → i < c → row_of (take c given) i ≡ row_of given i
row_of-take zero given i h = absurd (omega arith)
row_of-take (suc c) [] i h = refl
row_of-take (suc c) (x ∷ xs) zero h = refl
row_of-take (suc c) (x ∷ xs) (suc i) h = row_of-take c xs i (omega arith)

pub span_first : (op : Op) (ty : Datatype) (given : List (List ℕ)) (c : ℕ) → c ≤ length given → span op ty (row_of given) 0 c ≡ combination op ty (take c given)
span_first op ty given c h =
    span_agrees op ty (row_of given) (row_of (take c given)) 0 c (λ i x. sym (row_of-take c given i (omega arith)))
    ∙ (ap (span op ty (row_of (take c given)) 0) (sym (length-take-le c given h)) ∙ span_all op ty (take c given))
