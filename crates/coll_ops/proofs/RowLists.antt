-- Lists of rows, and their combination from the end.
use Rattle.std.proofs.Common.{◌≡◌, ℕ, zero, suc, ◌+◌, ◌*◌, ◌/◌, ◌%◌, ◌<◌, ◌≤◌, List, [], ◌∷◌, ◌++◌, length, drop, get_or, refl, arith, ap, sym, ◌∙◌}
use Rattle.std.proofs.Common.{flat_map, length-append, Vec, Global, map, add-one, take, subst, append_assoc, length-take, length-drop}
use Rattle.std.proofs.lemmas.Nat.{div-add-mod'}
use Rattle.std.proofs.lemmas.List.{append-nil}
use Rattle.coll_kinds.specs.declared.datatype.Datatype.{Datatype}
use Rattle.coll_kinds.specs.declared.operation.Op.{Op}
use Rattle.coll_kinds.specs.Elements.{Element, width, element_bytes}
use Rattle.coll_ops.specs.Combinations.{elements, zipped, combined, combination}
use Rattle.coll_ops.specs.Contributions.{rows_of, HaveParts}
use Rattle.coll_ops.specs.Values.{row_of, part}
use Rattle.coll_ops.proofs.Places.{length-element_bytes}

-- a row of the code's list, by its place
pub row_of-rows_of : (rows : List (Vec ℕ Global)) (i : ℕ) (v : Vec ℕ Global) → i < length rows → v ≡ get_or rows i v → row_of (rows_of rows) i ≡ v.items
row_of-rows_of [] i v within is = absurd (omega arith)
row_of-rows_of (row ∷ rows) zero v within is = ap (λ w. w.items) (sym is)
row_of-rows_of (row ∷ rows) (suc i) v within is = row_of-rows_of rows i v (omega arith) is

pub length-rows_of : (rows : List (Vec ℕ Global)) → length (rows_of rows) ≡ length rows
length-rows_of [] = refl
length-rows_of (row ∷ rows) = ap suc (length-rows_of rows)

-- parts of the code's rows, by their place
pub row_of-parts : (rows : List (Vec ℕ Global)) (at len i : ℕ) (v : Vec ℕ Global) → i < length rows → v ≡ get_or rows i v
    → row_of (map (part at len) (rows_of rows)) i ≡ part at len v.items
row_of-parts [] at len i v within is = absurd (omega arith)
row_of-parts (row ∷ rows) at len zero v within is = ap (λ w. part at len w.items) (sym is)
row_of-parts (row ∷ rows) at len (suc i) v within is = row_of-parts rows at len i v (omega arith) is

pub length-parts : (rows : List (Vec ℕ Global)) (at len : ℕ) → length (map (part at len) (rows_of rows)) ≡ length rows
length-parts [] at len = refl
length-parts (row ∷ rows) at len = ap suc (length-parts rows at len)

pub part-fits : (rows : List (Vec ℕ Global)) (at len i : ℕ) (v : Vec ℕ Global) → HaveParts at len (rows_of rows)
    → i < length rows → v ≡ get_or rows i v → at + len ≤ length v.items
part-fits rows at len i v have within is =
    subst (λ (row : List ℕ). at + len ≤ length row) (row_of-rows_of rows i v within is) (have i (omega (arith, length-rows_of rows)))

pub length-part : (at len : ℕ) (row : List ℕ) → at + len ≤ length row → length (part at len row) ≡ len
length-part at len row within = simp (length-take, length-drop) (omega arith)

-- what is taken of one more row after that of the rows before
pub flat_map-rows_suc : (f : List ℕ → List ℕ) (rows : List (Vec ℕ Global)) (i : ℕ) (v : Vec ℕ Global) → i < length rows → v ≡ get_or rows i v →
    flat_map f (take (suc i) (rows_of rows)) ≡ flat_map f (take i (rows_of rows)) ++ f v.items
flat_map-rows_suc f [] i v within is = absurd (omega arith)
flat_map-rows_suc f (row ∷ rows) zero v within is = append-nil (f row.items) ∙ ap (λ w. f w.items) (sym is)
flat_map-rows_suc f (row ∷ rows) (suc i) v within is =
    ap (λ rest. f row.items ++ rest) (flat_map-rows_suc f rows i v (omega arith) is)
    ∙ sym (append_assoc (f row.items) (flat_map f (take i (rows_of rows))) (f v.items))

pub flat_map-rows_more : (f : List ℕ → List ℕ) (rows : List (Vec ℕ Global)) (i : ℕ) (v : Vec ℕ Global) → i < length rows → v ≡ get_or rows i v →
    flat_map f (take (i + 1) (rows_of rows)) ≡ flat_map f (take i (rows_of rows)) ++ f v.items
flat_map-rows_more f rows i v within is = rw add-one (flat_map-rows_suc f rows i v within is)

combination-drop_suc : (op : Op) (ty : Datatype) (rows : List (List ℕ)) (i : ℕ) → suc i < length rows →
    combination op ty (drop i rows) ≡ combined op ty (row_of rows i) (combination op ty (drop (suc i) rows))
combination-drop_suc op ty [] i within = absurd (omega arith)
combination-drop_suc op ty (row ∷ []) i within = absurd (omega arith)
combination-drop_suc op ty (row ∷ next ∷ rows) zero within = refl
combination-drop_suc op ty (row ∷ next ∷ rows) (suc i) within = combination-drop_suc op ty (next ∷ rows) i (omega arith)

-- the first of several rows comes off a combination
pub combination-drop : (op : Op) (ty : Datatype) (rows : List (List ℕ)) (i j : ℕ) → j ≡ i + 1 → j < length rows →
    combination op ty (drop i rows) ≡ combined op ty (row_of rows i) (combination op ty (drop j rows))
combination-drop op ty rows i j next within =
    let e : suc i ≡ j = omega arith in
    combination-drop_suc op ty rows i (omega arith) ∙ ap (λ k. combined op ty (row_of rows i) (combination op ty (drop k rows))) e

-- the last row alone
pub combination-last : (op : Op) (ty : Datatype) (rows : List (List ℕ)) (n : ℕ) → length rows ≡ n + 1 → combination op ty (drop n rows) ≡ row_of rows n
combination-last op ty [] n last = absurd (omega arith)
combination-last op ty (row ∷ []) zero last = refl
combination-last op ty (row ∷ []) (suc n) last = absurd (omega arith)
combination-last op ty (row ∷ next ∷ rows) zero last = absurd (omega arith)
combination-last op ty (row ∷ next ∷ rows) (suc n) last = combination-last op ty (next ∷ rows) n (omega arith)

length-flat_map : (ty : Datatype) (zs : List Element) → length (flat_map (element_bytes ty) zs) ≡ length zs * width ty
length-flat_map ty [] = omega arith
length-flat_map ty (z ∷ zs) =
    let first : length (element_bytes ty z) ≡ width ty = length-element_bytes ty z in
    let rest : length (flat_map (element_bytes ty) zs) ≡ length zs * width ty = length-flat_map ty zs in
    length-append (element_bytes ty z) (flat_map (element_bytes ty) zs) ∙ grind (arith, first, rest)

pub length-zipped : (op : Op) (ty : Datatype) (n : ℕ) (a b : List ℕ) → length (zipped op ty (elements ty n a) (elements ty n b)) ≡ n
length-zipped op ty zero a b = refl
length-zipped op ty (suc n) a b = ap suc (length-zipped op ty n (drop (width ty) a) (drop (width ty) b))

-- a combination is as long as its left row
pub length-combined : (op : Op) (ty : Datatype) (left right : List ℕ) → length left % width ty ≡ 0 → length (combined op ty left right) ≡ length left
length-combined op ty left right whole =
    length-flat_map ty (zipped op ty (elements ty (length left / width ty) left) (elements ty (length left / width ty) right))
    ∙ (ap (λ k. k * width ty) (length-zipped op ty (length left / width ty) left right)
    ∙ omega (arith, div-add-mod' (length left) (width ty)))

-- and so is one of more rows, where all have one length
pub length-combination : (op : Op) (ty : Datatype) (len : ℕ) (rows : List (List ℕ)) → len % width ty ≡ 0 → 0 < length rows
    → ((i : ℕ) → i < length rows → length (row_of rows i) ≡ len) → length (combination op ty rows) ≡ len
length-combination op ty len [] whole some long = absurd (omega arith)
length-combination op ty len (row ∷ []) whole some long = long 0 (omega arith)
length-combination op ty len (row ∷ next ∷ rows) whole some long =
    length-combined op ty row (combination op ty (next ∷ rows)) (ap (λ k. k % width ty) (long 0 (omega arith)) ∙ whole) ∙ long 0 (omega arith)
