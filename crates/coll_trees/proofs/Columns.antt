-- what holds of each round of a family holds of the family
use Rattle.std.proofs.Common.{◌≡◌, ℕ, zero, suc, ◌+◌, ◌<◌, ◌≤◌, ◌||◌, Bool, true, false, cond, List, [], ◌∷◌, ◌++◌, length, slice_get, unwrap_or}
use Rattle.std.proofs.Common.{refl, sym, ap, subst, ◌∙◌, arith, count_by}
use Rattle.std.specs.List.{AllByRecursion, list_any}
use Rattle.coll_sched.specs.declared.region.Region.{Region}
use Rattle.coll_sched.specs.Common.{Inside, IsAmong, IsRound, has_peer, Family, actions_at, in_link, out_link, len_of, IsLawful, members, is_exchange}
use Rattle.coll_sched.specs.Common.{family_exchanges, is_send, is_recv, IsNarrow}
use Rattle.coll_sched.proofs.Each.{all_map}
use Rattle.coll_sched.proofs.Orders.{count_cons}
use Rattle.coll_trees.specs.Columns.{Column, rounds_of, family_of}

abbrev pub empty : Column
empty r = []

-- round j: none past the last
abbrev pub column_of : List Column → ℕ → Column
column_of [] j = empty
column_of (column ∷ rest) zero = column
column_of (column ∷ rest) (suc j) = column_of rest j

-- a lawful and narrow round of n members in buffers of this size
pub record IsColumn (n size : ℕ) (column : Column) : Type 0 where
  pub is_round : (r : ℕ) → r < n → IsRound size (column r)
  pub peers : (r : ℕ) → r < n → AllByRecursion (IsAmong n) (column r)
  pub aligned : (r p : ℕ) → r < n → p < n → len_of (in_link p (column r)) ≡ len_of (out_link r (column p))
  pub one_send : (r : ℕ) → r < n → count_by is_send (column r) ≤ 1
  pub one_recv : (r : ℕ) → r < n → count_by is_recv (column r) ≤ 1

pub empty_column : (n size : ℕ) → IsColumn n size empty
empty_column n size = record {
  is_round = λ r low. record { fits = tt; follows = tt };
  peers = λ r low. tt;
  aligned = λ r p hr hp. refl;
  one_send = λ r low. omega arith;
  one_recv = λ r low. omega arith;
}

pub all_append : (P : Column → Type 0) (xs ys : List Column) → AllByRecursion P xs → AllByRecursion P ys → AllByRecursion P (xs ++ ys)
all_append P [] ys h k = k
all_append P (x ∷ xs) ys h k = (h.0, all_append P xs ys h.1 k)

pub column_all : (P : Column → Type 0) (columns : List Column) (j : ℕ) → P empty → AllByRecursion P columns → P (column_of columns j)
column_all P [] j none h = none
column_all P (c ∷ cs) zero none h = h.0
column_all P (c ∷ cs) (suc j) none h = column_all P cs j none h.1

pub round-column : (columns : List Column) (j r : ℕ) → unwrap_or (slice_get (rounds_of columns r) j) [] ≡ column_of columns j r
round-column [] j r = refl
round-column (c ∷ cs) zero r = refl
round-column (c ∷ cs) (suc j) r = round-column cs j r

pub rounds-append : (xs ys : List Column) (r : ℕ) → rounds_of (xs ++ ys) r ≡ rounds_of xs r ++ rounds_of ys r
rounds-append [] ys r = refl
rounds-append (x ∷ xs) ys r = ap (λ rest. x r ∷ rest) (rounds-append xs ys r)

pub length-rounds : (columns : List Column) (r : ℕ) → length (rounds_of columns r) ≡ length columns
length-rounds [] r = refl
length-rounds (c ∷ cs) r = ap suc (length-rounds cs r)

pub column-left : (xs ys : List Column) (j : ℕ) → j < length xs → column_of (xs ++ ys) j ≡ column_of xs j
column-left [] ys j h = absurd (omega arith)
column-left (x ∷ xs) ys zero h = refl
column-left (x ∷ xs) ys (suc j) h = column-left xs ys j (omega arith)

pub column-right : (xs ys : List Column) (j : ℕ) → column_of (xs ++ ys) (length xs + j) ≡ column_of ys j
column-right [] ys j = ap (column_of ys) (omega arith)
column-right (x ∷ xs) ys j = ap (column_of (x ∷ (xs ++ ys))) (let e : suc (length xs) + j ≡ suc (length xs + j) = omega arith in e) ∙ column-right xs ys j

-- a lawful round of n members, each in a buffer of its own size
pub record IsLawfulColumn (n : ℕ) (size : ℕ → ℕ) (column : Column) : Type 0 where
  pub is_round : (r : ℕ) → r < n → IsRound (size r) (column r)
  pub peers : (r : ℕ) → r < n → AllByRecursion (IsAmong n) (column r)
  pub aligned : (r p : ℕ) → r < n → p < n → len_of (in_link p (column r)) ≡ len_of (out_link r (column p))

empty_lawful : (n : ℕ) (size : ℕ → ℕ) → IsLawfulColumn n size empty
empty_lawful n size = record {
  is_round = λ r low. record { fits = tt; follows = tt };
  peers = λ r low. tt;
  aligned = λ r p hr hp. refl;
}

rounds_all : (n : ℕ) (size : ℕ → ℕ) (r : ℕ) → r < n → (columns : List Column) → AllByRecursion (IsLawfulColumn n size) columns
    → AllByRecursion (IsRound (size r)) (rounds_of columns r)
rounds_all n size r low [] h = tt
rounds_all n size r low (c ∷ cs) h = (h.0.is_round r low, rounds_all n size r low cs h.1)

-- a family whose rounds are lawful columns, each member's buffer having its own size
pub lawful_columns : (n : ℕ) (f : Family) (columns : List Column) → ((r : ℕ) → (f r).rounds ≡ rounds_of columns r)
    → ((r : ℕ) → r < n → Inside (f r).size (f r).input) → ((r : ℕ) → r < n → Inside (f r).size (f r).output)
    → AllByRecursion (IsLawfulColumn n (λ r. (f r).size)) columns → IsLawful n f
lawful_columns n f columns is ins outs h = record {
  schedules = λ r low. record {
    input_inside = ins r low;
    output_inside = outs r low;
    each_round =
        subst (AllByRecursion (IsRound (f r).size)) (sym (is r)) (rounds_all n (λ q. (f q).size) r low columns h);
  };
  same_rounds = λ r p hr hp. rounds r ∙ sym (rounds p);
  peers = λ j r low. subst (AllByRecursion (IsAmong n)) (sym (acts j r)) ((at j).peers r low);
  aligned = λ j r p hr hp. ap (λ xs. len_of (in_link p xs)) (acts j r) ∙ ((at j).aligned r p hr hp ∙ sym (ap (λ xs. len_of (out_link r xs)) (acts j p)));
}
  where
    at : (j : ℕ) → IsLawfulColumn n (λ r. (f r).size) (column_of columns j)
    at j = column_all (IsLawfulColumn n (λ r. (f r).size)) columns j (empty_lawful n (λ r. (f r).size)) h

    rounds : (r : ℕ) → length (f r).rounds ≡ length columns
    rounds r = ap length (is r) ∙ length-rounds columns r

    acts : (j r : ℕ) → actions_at f j r ≡ column_of columns j r
    acts j r = ap (λ xs. unwrap_or (slice_get xs j) []) (is r) ∙ round-column columns j r

lawful_column : (n size : ℕ) (column : Column) → IsColumn n size column → IsLawfulColumn n (λ r. size) column
lawful_column n size column h = record { is_round = h.is_round; peers = h.peers; aligned = h.aligned }

pub lawful_family : (n size : ℕ) (input output : ℕ → Region) (columns : List Column) → ((r : ℕ) → r < n → Inside size (input r))
    → ((r : ℕ) → r < n → Inside size (output r)) → AllByRecursion (IsColumn n size) columns → IsLawful n (family_of size input output columns)
lawful_family n size input output columns ins outs h =
    lawful_columns n (family_of size input output columns) columns (λ r. refl) ins outs
    (all_map (IsColumn n size) (IsLawfulColumn n (λ r. size)) (lawful_column n size) columns h)

pub narrow_family : (n size : ℕ) (input output : ℕ → Region) (columns : List Column) → AllByRecursion (IsColumn n size) columns
    → IsNarrow n (family_of size input output columns)
narrow_family n size input output columns h = record {
  one_send = λ j r low. subst (λ xs. count_by is_send xs ≤ 1) (sym (round-column columns j r)) ((at j).one_send r low);
  one_recv = λ j r low. subst (λ xs. count_by is_recv xs ≤ 1) (sym (round-column columns j r)) ((at j).one_recv r low);
}
  where
    at : (j : ℕ) → IsColumn n size (column_of columns j)
    at j = column_all (IsColumn n size) columns j (empty_column n size) h

-- no member has a Send or a Recv in this round
abbrev pub IsLocalColumn : Column → Type 0
IsLocalColumn column = (r : ℕ) → list_any has_peer (column r) ≡ false

-- these rounds have at most that many exchanges
pub data Costs : List Column → ℕ → Type 0 where
  free : {k : ℕ} → Costs [] k
  local_round : {column : Column} {rest : List Column} {k : ℕ} → IsLocalColumn column → Costs rest k → Costs (column ∷ rest) k
  exchange : {column : Column} {rest : List Column} {k : ℕ} → Costs rest k → Costs (column ∷ rest) (suc k)

pub costs_more : {columns : List Column} {k l : ℕ} → k ≤ l → Costs columns k → Costs columns l
costs_more h free = free
costs_more h (local_round e c) = local_round e (costs_more h c)
costs_more {l = zero} h (exchange c) = absurd (omega arith)
costs_more {l = suc l} h (exchange {k = k} c) = exchange (costs_more (let e : k ≤ l = omega arith in e) c)

pub costs_append : (xs ys : List Column) (k l m : ℕ) → k + l ≡ m → Costs xs k → Costs ys l → Costs (xs ++ ys) m
costs_append [] ys k l m e c d = costs_more (omega arith) d
costs_append (x ∷ xs) ys k l m e (local_round h c) d = local_round h (costs_append xs ys k l m e c d)
costs_append (x ∷ xs) ys (suc k) l zero e (exchange c) d = absurd (omega arith)
costs_append (x ∷ xs) ys (suc k) l (suc m) e (exchange c) d = exchange (costs_append xs ys k l m (omega arith) c d)

none_any : (p : ℕ → Bool) (k c : ℕ) → ((r : ℕ) → r < k + c → p r ≡ false) → list_any p (members k c) ≡ false
none_any p k zero h = refl
none_any p k (suc c) h = ap (λ (b : Bool). b || list_any p (members (suc k) c)) (h k (omega arith)) ∙ none_any p (suc k) c (λ r low. h r (omega arith))

at_most_one : (b : Bool) → cond b 1 0 ≤ 1
at_most_one true = omega arith
at_most_one false = omega arith

count_columns : (n : ℕ) (f : Family) (columns : List Column) (j k : ℕ) → Costs columns k
    → ((i r : ℕ) → i < length columns → actions_at f (j + i) r ≡ column_of columns i r) → count_by (is_exchange n f) (members j (length columns)) ≤ k
count_columns n f [] j k c h = omega arith
count_columns n f (x ∷ xs) j k (local_round e c) h =
    let rest : count_by (is_exchange n f) (members (suc j) (length xs)) ≤ k =
    count_columns n f xs (suc j) k c
    (λ i r low. ap (λ m. actions_at f m r) (let z : suc j + i ≡ j + suc i = omega arith in z) ∙ h (suc i) r (omega arith)) in
    let here : is_exchange n f j ≡ false =
    none_any (λ r. list_any has_peer (actions_at f j r)) 0 n
    (λ r low. ap (list_any has_peer) (ap (λ m. actions_at f m r) (let z : j ≡ j + 0 = omega arith in z) ∙ h 0 r (omega arith)) ∙ e r) in
    let all : count_by (is_exchange n f) (members j (suc (length xs))) ≡ 0 + count_by (is_exchange n f) (members (suc j) (length xs)) =
    count_cons (is_exchange n f) j (members (suc j) (length xs))
    ∙ ap (λ (b : Bool). cond b 1 0 + count_by (is_exchange n f) (members (suc j) (length xs))) here in
    omega arith
count_columns n f (x ∷ xs) j (suc k) (exchange c) h =
    let rest : count_by (is_exchange n f) (members (suc j) (length xs)) ≤ k =
    count_columns n f xs (suc j) k c
    (λ i r low. ap (λ m. actions_at f m r) (let z : suc j + i ≡ j + suc i = omega arith in z) ∙ h (suc i) r (omega arith)) in
    let all : count_by (is_exchange n f) (members j (suc (length xs)))
    ≡ cond (is_exchange n f j) 1 0 + count_by (is_exchange n f) (members (suc j) (length xs)) =
    count_cons (is_exchange n f) j (members (suc j) (length xs)) in
    let one : cond (is_exchange n f j) 1 0 ≤ 1 = at_most_one (is_exchange n f j) in
    omega arith

pub few_exchanges : (n size : ℕ) (input output : ℕ → Region) (columns : List Column) (k : ℕ) → Costs columns k
    → family_exchanges n (family_of size input output columns) ≤ k
few_exchanges n size input output columns k c =
    subst (λ m. count_by (is_exchange n (family_of size input output columns)) (members 0 m) ≤ k) (sym (length-rounds columns 0))
    (count_columns n (family_of size input output columns) columns 0 k c
    (λ i r low. ap (λ m. unwrap_or (slice_get (rounds_of columns r) m) []) (let z : 0 + i ≡ i = omega arith in z) ∙ round-column columns i r))

count_none : (p : ℕ → Bool) (k c : ℕ) → ((j : ℕ) → p j ≡ false) → count_by p (members k c) ≤ 0
count_none p k zero h = omega arith
count_none p k (suc c) h =
    let rest : count_by p (members (suc k) c) ≤ 0 = count_none p (suc k) c h in
    let all : count_by p (members k (suc c)) ≡ 0 + count_by p (members (suc k) c) =
    count_cons p k (members (suc k) c) ∙ ap (λ (b : Bool). cond b 1 0 + count_by p (members (suc k) c)) (h k) in
    omega arith

-- a family without Sends and Recvs has no exchanges
pub no_exchanges : (n : ℕ) (f : Family) → ((j r : ℕ) → r < n → list_any has_peer (actions_at f j r) ≡ false) → family_exchanges n f ≤ 0
no_exchanges n f h =
    count_none (is_exchange n f) 0 (length (f 0).rounds) (λ j. none_any (λ r. list_any has_peer (actions_at f j r)) 0 n (λ r low. h j r (omega arith)))
