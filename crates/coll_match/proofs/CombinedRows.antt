-- Combinations of what neighbouring members gave, and a change of what an instance has.
use Rattle.std.proofs.Common.{◌≡◌, ◌≢◌, ℕ, zero, suc, ◌+◌, ◌<◌, ◌≤◌, ◌⊎◌, inl, inr, List, [], ◌∷◌, ◌++◌, length, map, set, get_or, Option, Some, None}
use Rattle.std.proofs.Common.{refl, sym, ap, ◌∙◌, arith, rules, Bool, true, false, eqb-true}
use Rattle.std.specs.Prelude.{◌==◌, ◌&&◌, if◌then◌else◌, is_some, slice_get, unwrap_or, IfSome}
use Rattle.std.specs.Borrow.{Bor}
use Rattle.std.specs.List.{range_with_len}
use Rattle.std.specs.Option.{ForSome, option_copied}
use Rattle.std.proofs.lemmas.Bool.{and_parts, cases_eq, cases_lt}
use Rattle.std.proofs.lemmas.List.{length-map, length-set}
use Rattle.std.proofs.lemmas.Option.{none-some, same_Some}
use denote.Enum.Bare.{sameb, same_true}
use Rattle.coll_kinds.specs.contracts.datatype.Datatype as datatype
use Rattle.coll_kinds.specs.contracts.operation.Op as operation
use Rattle.coll_kinds.specs.Puts.{put}
use Rattle.coll_kinds.proofs.Puts.{put_other}
use Rattle.coll_ops.specs.Combinations.{combination}
use Rattle.coll_ops.specs.Values.{all_rows}
use Rattle.coll_sched.specs.Served.{listing}
use Rattle.coll_match.specs.declared.combined_row.CombinedRow.{CombinedRow}
use Rattle.coll_match.specs.declared.combined_row.Combination.{Combination}
use Rattle.coll_match.specs.declared.instance.Share.{Share}
use Rattle.coll_match.specs.Held.{AreCombined, HasCombined, HasJoined, Held, IsCellOf, combined_rows, contribution_of, given_in}
use Rattle.coll_match.specs.Views.{held_of, part_of}
use Rattle.coll_match.proofs.Shares.{parts_kept, parts_set, share_joined}

-- what is known of an instance's rows stays while a share that changes keeps its contribution
pub known_kept : (o : Option (List ℕ)) (rows : List CombinedRow) (shares : List Share) (i : ℕ) (share old : Share) → i < length shares
    → old ≡ get_or shares i old → share.given ≡ old.given
    → ForSome o (HasJoined (held_of shares)) × AreCombined (held_of shares) rows
    → ForSome o (HasJoined (held_of (set shares i share))) × AreCombined (held_of (set shares i share)) rows
known_kept o rows shares i share old low is same known = (
  share_joined o shares i share old low is same known.0,
  λ k row here missing. known.1 k row here missing
      ∙ ap (λ g. combined_rows g missing row.of) (sym (parts_kept contribution_of shares i share low old is same)),
)

-- ---- one more member gives

row_more : (before after : Option (List ℕ)) (row : List ℕ) → ((r : List ℕ) → before ≡ Some r → after ≡ Some r)
    → unwrap_or before (unwrap_or after row) ≡ unwrap_or after row
row_more None after row keeps = refl
row_more (Some r) after row keeps = ap (λ o. unwrap_or o row) (sym (keeps r refl))

-- who has given stays so, and what the others give may stand for them before
rows_more : (gave after : ℕ → Option (List ℕ)) (member : ℕ) (bytes : List ℕ) (missing : ℕ → List ℕ) → gave member ≡ None
    → after ≡ put gave member (Some bytes)
    → ◌≡◌ {A = ℕ → List ℕ} (λ m. unwrap_or (gave m) (unwrap_or (after m) (missing m))) (λ m. unwrap_or (after m) (missing m))
rows_more gave after member bytes missing none is = λ z m. row_more (gave m) (after m) (missing m) (keeps m) z
  where
    keeps : (m : ℕ) (r : List ℕ) → gave m ≡ Some r → after m ≡ Some r
    keeps m r e = elim (cases_eq m member) [
      | inl here ↦ absurd (none-some r (sym none ∙ (ap gave (sym here) ∙ e)))
      | inr apart ↦ ap (λ f. f m) is ∙ (put_other gave member (Some bytes) m apart ∙ e)
    ]

joined_more : (o : Option (List ℕ)) (h k : Held) (member : ℕ) (bytes : List ℕ) → given_in h member ≡ None
    → given_in k ≡ put (given_in h) member (Some bytes) → length k.shares ≡ length h.shares → ForSome o (HasJoined h) → ForSome o (HasJoined k)
joined_more o h k member bytes none gave long joined whole is missing =
    joined whole is (λ m. unwrap_or (given_in k m) (missing m))
    ∙ (λ z. all_rows (map (rows_more (given_in h) (given_in k) member bytes missing none gave z) (range_with_len 0 (sym long z))))

combined_more : (rows : List CombinedRow) (h k : Held) (member : ℕ) (bytes : List ℕ) → given_in h member ≡ None
    → given_in k ≡ put (given_in h) member (Some bytes) → AreCombined h rows → AreCombined k rows
combined_more rows h k member bytes none gave combined i row here missing =
    combined i row here (λ m. unwrap_or (given_in k m) (missing m))
    ∙ ap (λ (of_each : ℕ → List ℕ). combination row.of.op row.of.ty (listing of_each row.of.first row.of.count))
    (rows_more (given_in h) (given_in k) member bytes missing none gave)

-- what is known of an instance's rows stays when one more member gives
pub known_more : (o : Option (List ℕ)) (rows : List CombinedRow) (shares : List Share) (i : ℕ) (share : Share) (bytes : List ℕ) → i < length shares
    → share.given ≡ Some bytes → given_in (held_of shares) i ≡ None
    → ForSome o (HasJoined (held_of shares)) × AreCombined (held_of shares) rows
    → ForSome o (HasJoined (held_of (set shares i share))) × AreCombined (held_of (set shares i share)) rows
known_more o rows shares i share bytes low gives none known = (
  joined_more o (held_of shares) (held_of (set shares i share)) i bytes none gave long known.0,
  combined_more rows (held_of shares) (held_of (set shares i share)) i bytes none gave known.1,
)
  where
    gave : given_in (held_of (set shares i share)) ≡ put (given_in (held_of shares)) i (Some bytes)
    gave = parts_set contribution_of shares i share low ∙ ap (put (given_in (held_of shares)) i) gives

    long : length (map part_of (set shares i share)) ≡ length (map part_of shares)
    long = length-map (set shares i share) part_of ∙ (length-set shares i share ∙ sym (length-map shares part_of))

-- ---- one more combination

last_or : {A : Type 0} (xs : List A) (y : A) (i : ℕ) (r : A) → slice_get (xs ++ y ∷ []) i ≡ Some r → (slice_get xs i ≡ Some r) ⊎ (y ≡ r)
last_or [] y zero r e = inr (same_Some y r e)
last_or [] y (suc i) r e = absurd (none-some r e)
last_or (x ∷ xs) y zero r e = inl e
last_or (x ∷ xs) y (suc i) r e = last_or xs y i r e

pub combined_push : (rows more : List CombinedRow) (row : CombinedRow) (h : Held) (pushed : Bool)
    → more ≡ (if pushed then rows ++ row ∷ [] else rows) → AreCombined h rows → HasCombined h row.of row.cell → AreCombined h more
combined_push rows more row h false is combined one i at here missing = combined i at (ap (λ rows. slice_get rows i) (sym is) ∙ here) missing
combined_push rows more row h true is combined one i at here missing =
    elim (last_or rows row i at (ap (λ rows. slice_get rows i) (sym is) ∙ here)) [
      | inl before ↦ combined i at before missing
      | inr last ↦ ap (λ (r : CombinedRow). r.cell) (sym last) ∙ (one missing ∙ ap (λ (r : CombinedRow). combined_rows (given_in h) missing r.of) last)
    ]

-- of members that have all given, nothing stands for one that hasn't
same_row : (o : Option (List ℕ)) (a b : List ℕ) → o ≢ None → unwrap_or o a ≡ unwrap_or o b
same_row None a b some = absurd (some refl)
same_row (Some row) a b some = refl

same_listing : (gave : ℕ → Option (List ℕ)) (a b : ℕ → List ℕ) (k c : ℕ) → ((m : ℕ) → k ≤ m → m < k + c → gave m ≢ None)
    → listing (λ m. unwrap_or (gave m) (a m)) k c ≡ listing (λ m. unwrap_or (gave m) (b m)) k c
same_listing gave a b k zero all = refl
same_listing gave a b k (suc c) all =
    λ z. same_row (gave k) (a k) (b k) (all k (omega arith) (omega arith)) z
    ∷ same_listing gave a b (suc k) c (λ m low high. all m (omega (arith, low)) (omega (arith, high))) z

pub whole_combined : (h : Held) (of : Combination) (bytes : List ℕ) (missing : ℕ → List ℕ)
    → ((m : ℕ) → of.first ≤ m → m < of.first + of.count → given_in h m ≢ None)
    → bytes ≡ combined_rows (given_in h) missing of → HasCombined h of bytes
whole_combined h of bytes missing all is other =
    is ∙ ap (combination of.op of.ty) (same_listing (given_in h) missing other of.first of.count all)

-- what is seen of one that has given
pub given_seen : (o : Option (Bor (List ℕ))) (gave : Option (List ℕ)) → is_some o ≡ true → option_copied o ≡ gave → gave ≢ None
given_seen None gave some seen none = absurd cc
given_seen (Some row) gave some seen none = none-some row.now (sym (seen ∙ none))

-- one more of them has given
pub given_more : (gave : ℕ → Option (List ℕ)) (first k : ℕ) → ((m : ℕ) → first ≤ m → m < k → gave m ≢ None) → gave k ≢ None
    → (m : ℕ) → first ≤ m → m < k + 1 → gave m ≢ None
given_more gave first k below here m low high none = elim (cases_lt m k) [
  | inl h ↦ below m low h none
  | inr h ↦ here (ap gave (let e : k ≡ m = omega (arith, h, high) in e) ∙ none)
]

-- ---- a cell that is found

pub same_combination : (a b : Combination)
    → (sameb operation.the_type a.op b.op && (sameb datatype.the_type a.ty b.ty && ((a.first == b.first) && (a.count == b.count)))) ≡ true → a ≡ b
same_combination a b e =
    let one = and_parts (sameb operation.the_type a.op b.op)
    (sameb datatype.the_type a.ty b.ty && ((a.first == b.first) && (a.count == b.count))) e in
    let two = and_parts (sameb datatype.the_type a.ty b.ty) ((a.first == b.first) && (a.count == b.count)) one.1 in
    let three = and_parts (a.first == b.first) (a.count == b.count) two.1 in
    λ z. record {
      op = same_true operation.the_type (search rules) a.op b.op one.0 z;
      ty = same_true datatype.the_type (search rules) a.ty b.ty two.0 z;
      first = eqb-true a.first b.first three.0 z;
      count = eqb-true a.count b.count three.1 z;
    }

pub cell_found : (rows : List CombinedRow) (of : Combination) (i : ℕ) (row : CombinedRow) (o : Option (List ℕ)) → slice_get rows i ≡ Some row
    → row.of ≡ of → IfSome o (λ other. other ≡ row.cell) → IfSome o (IsCellOf rows of)
cell_found rows of i row None here same is = tt
cell_found rows of i row (Some bytes) here same is = record { i = i; row = row; here = here; of_is = same; cell_is = sym is }

pub found_cell : (h : Held) (rows seen : List CombinedRow) (of : Combination) (bytes tag : List ℕ) (missing : ℕ → List ℕ) → seen ≡ rows
    → AreCombined h rows → tag ≡ combined_rows (given_in h) missing of → IsCellOf seen of bytes → bytes ≡ tag
found_cell h rows seen of bytes tag missing all combined tag_is cell =
    sym cell.cell_is
    ∙ (combined cell.i cell.row (ap (λ rows. slice_get rows cell.i) (sym all) ∙ cell.here) missing
    ∙ (ap (combined_rows (given_in h) missing) cell.of_is ∙ sym tag_is))
