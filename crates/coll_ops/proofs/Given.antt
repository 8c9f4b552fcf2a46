-- What the members gave, as a value reads it.
use Rattle.std.proofs.Common.{◌≡◌, ℕ, zero, suc, ◌+◌, ◌*◌, ◌-◌, ◌<◌, Bool, true, false, List, [], ◌∷◌, ◌++◌, length, take, get_or, map, refl, arith}
use Rattle.std.proofs.Common.{ap, sym, ◌∙◌, subst, rules, Vec, Global, Result, Ok, Err, Option, Some, None, min, length-take, MatchOption, IsOk}
use Rattle.std.proofs.Math.Seq.{take-length}
use Rattle.std.specs.Prelude.{IfOk, ◌==◌, nat_lt, unwrap_or, if◌then◌else◌}
use Rattle.std.specs.List.{flat_map}
use Rattle.coll_kinds.specs.declared.kind.Kind.{Kind}
use Rattle.coll_kinds.specs.declared.operation.Op.TheVariants.{Sum}
use Rattle.coll_kinds.specs.declared.signature.Signature.{Signature}
use Rattle.coll_kinds.specs.Common.{block_len, row_len, given_by, has_root, broken, root_fits}
use Rattle.coll_ops.specs.Contributions.{rows_of, AreGiven}
use Rattle.coll_ops.specs.Values.{part, row_of, all_rows, value, value_by}
use Rattle.std.proofs.lemmas.Bool.{false≢true, ltb-true}
use Rattle.coll_kinds.specs.declared.refusal.SignatureFault.{SignatureFault}
use Rattle.coll_kinds.specs.declared.refusal.Refusal.{Refusal}
use Rattle.coll_kinds.specs.declared.refusal.Refusal.TheVariants.{BadSignature}
use Rattle.coll_ops.proofs.RowLists.{row_of-rows_of, length-rows_of}

-- one fact of an Ok for another
pub IfOk-map : {T E : Type 0} (P Q : T → Type 0) → ((v : T) → P v → Q v) → (r : Result T E) → IfOk r P → IfOk r Q
IfOk-map P Q f (Ok v) h = f v h
IfOk-map P Q f (Err e) h = h

pub value-kind : (sig : Signature) (kind : Kind) (rows : List (List ℕ)) (r : ℕ) → sig.kind ≡ kind
    → value sig rows r ≡ value_by kind (unwrap_or sig.op Sum) sig.ty (block_len sig) sig.root rows r
value-kind sig kind rows r is = ap (λ k. value_by k (unwrap_or sig.op Sum) sig.ty (block_len sig) sig.root rows r) is

-- a row's length by the kind
pub length-given : (sig : Signature) (kind : Kind) (n : ℕ) (rows : List (List ℕ)) → sig.kind ≡ kind → AreGiven sig n rows
    → (i : ℕ) → i < n → length (row_of rows i) ≡ given_by kind sig.root n i (block_len sig) (row_len sig)
length-given sig kind n rows is given i within = given.long i within ∙ ap (λ k. given_by k sig.root n i (block_len sig) (row_len sig)) is

-- the code's row, by the definition's
pub length-item : (rows : List (Vec ℕ Global)) (i : ℕ) (v : Vec ℕ Global) → i < length rows → v ≡ get_or rows i v
    → length v.items ≡ length (row_of (rows_of rows) i)
length-item rows i v within is = ap length (sym (row_of-rows_of rows i v within is))

-- a whole row is a part
pub part-whole : (len : ℕ) (row : List ℕ) → length row ≡ len → part 0 len row ≡ row
part-whole len row long = ap (λ n. take n row) (sym long) ∙ take-length row

pub map-part_whole : (len : ℕ) (rows : List (List ℕ)) → ((i : ℕ) → i < length rows → length (row_of rows i) ≡ len) → map (part 0 len) rows ≡ rows
map-part_whole len [] long = refl
map-part_whole len (row ∷ rows) long =
    ap (λ x. x ∷ map (part 0 len) rows) (part-whole len row (long 0 (omega arith)))
    ∙ ap (λ xs. row ∷ xs) (map-part_whole len rows (λ i within. long (suc i) (omega arith)))

pub flat_map-part_whole : (len : ℕ) (rows : List (List ℕ)) → ((i : ℕ) → i < length rows → length (row_of rows i) ≡ len)
    → flat_map (part 0 len) rows ≡ all_rows rows
flat_map-part_whole len [] long = refl
flat_map-part_whole len (row ∷ rows) long =
    ap (λ x. x ++ flat_map (part 0 len) rows) (part-whole len row (long 0 (omega arith)))
    ∙ ap (λ xs. row ++ xs) (flat_map-part_whole len rows (λ i within. long (suc i) (omega arith)))

-- the rows of the first k members
pub rows_of-take : (rows : List (Vec ℕ Global)) (k : ℕ) → rows_of (take k rows) ≡ take k (rows_of rows)
rows_of-take rows zero = refl
rows_of-take [] (suc k) = refl
rows_of-take (row ∷ rows) (suc k) = ap (λ rest. row.items ∷ rest) (rows_of-take rows k)

pub row_of-take : (rows : List (List ℕ)) (k i : ℕ) → i < length (take k rows) → row_of (take k rows) i ≡ row_of rows i
row_of-take rows zero i within = absurd (omega arith)
row_of-take [] (suc k) i within = absurd (omega arith)
row_of-take (row ∷ rows) (suc k) zero within = refl
row_of-take (row ∷ rows) (suc k) (suc i) within = row_of-take rows k i (omega arith)

pub length-take-lt : (rows : List (List ℕ)) (k i : ℕ) → i < length (take k rows) → i < length rows
length-take-lt rows k i within = let h : i < min k (length rows) = rw length-take at within in omega arith

kept_test : (b : Bool) (x : Option SignatureFault) (fault : SignatureFault) → (if b then x else Some fault) ≡ None → b ≡ true
kept_test true x fault h = refl
kept_test false x fault h = cc

kept_branch : (b : Bool) (x y : Bool) → b ≡ true → (if b then x else y) ≡ true → x ≡ true
kept_branch true x y on h = h
kept_branch false x y on h = absurd (false≢true on)

-- where the kind has a root, it is a member
pub root-member : (sig : Signature) (n : ℕ) → broken sig n ≡ None → has_root sig.kind ≡ true → sig.root < n
root-member sig n fits rooted =
    ltb-true sig.root n (kept_branch (has_root sig.kind) (nat_lt sig.root n) (sig.root == 0) rooted (kept_test (root_fits sig n) _ _ fits))

-- the root's row, as the code reads it
pub root-row : (sig : Signature) (kind : Kind) (n : ℕ) (given : List (Vec ℕ Global)) (root : ℕ) (v : Vec ℕ Global) → sig.kind ≡ kind → has_root kind ≡ true →
    broken sig n ≡ None → AreGiven sig n (rows_of given) → root ≡ sig.root → v ≡ get_or given root v →
    (length v.items ≡ given_by kind sig.root n sig.root (block_len sig) (row_len sig)) × (v.items ≡ row_of (rows_of given) sig.root)
root-row sig kind n given root v is rooted fits rows root_is v_is =
    let member : sig.root < n = root-member sig n fits (ap has_root is ∙ rooted) in
    let within : root < length given = omega (arith, rows.each, length-rows_of given) in
    let same : v.items ≡ row_of (rows_of given) sig.root = sym (row_of-rows_of given root v within v_is) ∙ ap (row_of (rows_of given)) root_is in
    (ap length same ∙ length-given sig kind n (rows_of given) is rows sig.root member, same)

pub if-equal : {X : Type 0} (a b : ℕ) (x y : X) → a ≡ b → (if a == b then x else y) ≡ x
if-equal a b x y h = let e : (a == b) ≡ true = search rules in rw e refl

-- n blocks are those before r, block r, and those after it
pub blocks-around : (r n count w : ℕ) → r < n → (r * count + (count + (n - (r + 1)) * count)) * w ≡ n * (count * w)
blocks-around r n count w member =
    let split : n ≡ (r + 1) + (n - (r + 1)) = omega arith in
    subst (λ (k : ℕ). (r * count + (count + (n - (r + 1)) * count)) * w ≡ k * (count * w)) (sym split) (grind arith)

-- a signature whose check passed breaks no rule
pub unbroken : (x : Option SignatureFault) (r : Result (Unit {0}) Refusal) (u : Unit {0})
    → MatchOption x (IsOk r) (λ cause. r ≡ Err (BadSignature cause)) → r ≡ Ok u → x ≡ None
unbroken None r u told ok = refl
unbroken (Some cause) r u told ok = cc
