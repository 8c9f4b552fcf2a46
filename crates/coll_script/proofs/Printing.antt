-- Output as far as it is printed, and what is still to come.
use Rattle.std.proofs.Common.{◌≡◌, ℕ, suc, ◌+◌, ◌-◌, ◌*◌, ◌/◌, ◌<◌, ◌≤◌, List, [], ◌∷◌, ◌++◌, length, drop, ap, sym, ◌∙◌, append_assoc, arith}
use Rattle.std.specs.Prelude.{flat_map, Result, Ok, Err, OnErr}
use Rattle.std.proofs.lemmas.List.{append-nil, length-drop}
use Rattle.std.proofs.lemmas.List.Concat.{flat_map-cons}
use Rattle.std.proofs.Math.Nat.{mul-le-mul_right}
use Rattle.coll_kinds.specs.declared.datatype.Datatype.{Datatype}
use Rattle.coll_kinds.specs.Common.{Element, width, element_at, text_of}
use Rattle.coll_ops.specs.Combinations.{elements}
use Rattle.coll_parser.proofs.Contributions.{width-positive}
use Rattle.coll_script.specs.Meaning.{element_text}
use Rattle.coll_script.specs.Growing.{Extends}

pub Extends-self : (old : List ℕ) → Extends old old
Extends-self old = ([], sym (append-nil old))

pub Extends-more : (old new newer more : List ℕ) → Extends old new → newer ≡ new ++ more → Extends old newer
Extends-more old new newer more front e = (front.0 ++ more, e ∙ ap (λ (xs : List ℕ). xs ++ more) front.1 ∙ append_assoc old front.0 more)

-- ---- the elements of a row

-- an element that is still to come lies in the rest of the row
pub width-le : (ty : Datatype) (len i rest : ℕ) → i < len / width ty → rest + i * width ty ≡ len → width ty ≤ rest
width-le ty len i rest lt split =
    let positive = width-positive ty in
    let more : i + 1 ≤ len / width ty = omega arith in
    let scaled = mul-le-mul_right (width ty) more in
    omega arith

-- the row from the next element on
pub rest-more : (ty : Datatype) (len i : ℕ) (row : List ℕ) → width ty ≤ length row → length row + i * width ty ≡ len
    → length (drop (width ty) row) + (i + 1) * width ty ≡ len
rest-more ty len i row le split = let dropped = length-drop (width ty) row in omega arith

-- text that grows by that of the next element
pub elements-more : (text : Element → List ℕ) (ty : Datatype) (end i : ℕ) (rest out total : List ℕ) → i < end
    → out ++ flat_map text (elements ty (end - i) rest) ≡ total
    → (out ++ text (element_at ty rest)) ++ flat_map text (elements ty (end - (i + 1)) (drop (width ty) rest)) ≡ total
elements-more text ty end i rest out total lt so_far =
    let left : end - i ≡ suc (end - (i + 1)) = omega arith in
    let others = flat_map text (elements ty (end - (i + 1)) (drop (width ty) rest)) in
    let here : flat_map text (elements ty (end - i) rest) ≡ text (element_at ty rest) ++ others =
    ap (λ n. flat_map text (elements ty n rest)) left ∙ flat_map-cons text (element_at ty rest) (elements ty (end - (i + 1)) (drop (width ty) rest)) in
    append_assoc out (text (element_at ty rest)) others ∙ ap (λ (xs : List ℕ). out ++ xs) (sym here) ∙ so_far

-- the same where a space is written first
pub spaced-more : (ty : Datatype) (end i : ℕ) (rest out total : List ℕ) → i < end → out ++ flat_map element_text (elements ty (end - i) rest) ≡ total
    → ((out ++ 32 ∷ []) ++ text_of (element_at ty rest)) ++ flat_map element_text (elements ty (end - (i + 1)) (drop (width ty) rest)) ≡ total
spaced-more ty end i rest out total lt so_far =
    ap (λ (xs : List ℕ). xs ++ flat_map element_text (elements ty (end - (i + 1)) (drop (width ty) rest)))
    (append_assoc out (32 ∷ []) (text_of (element_at ty rest)))
    ∙ elements-more element_text ty end i rest out total lt so_far

-- ---- exits

pub OnErr-always : {T E P : Type 0} (r : Result T E) → P → OnErr r P
OnErr-always (Ok x) p = tt
OnErr-always (Err e) p = p

pub minus-zero : (n : ℕ) → n - 0 ≡ n
minus-zero n = omega arith
