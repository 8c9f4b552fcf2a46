-- A block of a combination is the combination of the blocks.
use Rattle.std.proofs.Common.{◌≡◌, ℕ, zero, suc, ◌+◌, ◌-◌, ◌*◌, ◌/◌, ◌<◌, ◌≤◌, List, [], ◌∷◌, ◌++◌, length, take, drop, refl, arith, ap, sym, ◌∙◌}
use Rattle.std.proofs.Common.{map, flat_map, length-take, length-drop}
use Rattle.std.proofs.Math.Nat.{zero-mul, mul-div_left, mul-mod_left}
use Rattle.std.proofs.lemmas.List.{drop-drop, drop-take, take-append-drop}
use Rattle.std.proofs.Math.Seq.{drop-nil, take-nil, drop-append-add, take-append-add}
use Rattle.byteorder.specs.Endian.{little_number}
use Rattle.byteorder.specs.Numbers.{little_from-append}
use Rattle.coll_kinds.specs.declared.datatype.Datatype.{Datatype}
use Rattle.coll_kinds.specs.declared.operation.Op.{Op}
use Rattle.coll_kinds.specs.Elements.{Element, width, element_of, element_at, element_bytes}
use Rattle.coll_ops.specs.Operations.{applied}
use Rattle.coll_ops.specs.Combinations.{elements, zipped, combined, combination}
use Rattle.coll_ops.specs.Values.{part, row_of}
use Rattle.coll_ops.proofs.Places.{length-element_bytes}
use Rattle.coll_ops.proofs.ElementBits.{width-some}
use Rattle.coll_ops.proofs.RowLists.{length-combination, length-part}

-- the elements after the first m
elements-drop : (ty : Datatype) (m k : ℕ) (row : List ℕ) → elements ty k (drop (m * width ty) row) ≡ drop m (elements ty (m + k) row)
elements-drop ty zero k row = rw (zero-mul (width ty)) (ap (λ n. elements ty n row) (omega arith))
elements-drop ty (suc m) k row =
    let next : drop (suc m * width ty) row ≡ drop (m * width ty) (drop (width ty) row) =
    ap (λ n. drop n row) (omega arith) ∙ sym (drop-drop (m * width ty) (width ty) row) in
    let count : suc m + k ≡ suc (m + k) = omega arith in
    rw (next, count) (elements-drop ty m k (drop (width ty) row))

-- the first k of them
elements-take : (ty : Datatype) (k j : ℕ) (row : List ℕ) → elements ty k row ≡ take k (elements ty (k + j) row)
elements-take ty zero j row = refl
elements-take ty (suc k) j row =
    let count : suc k + j ≡ suc (k + j) = omega arith in
    rw count (ap (λ rest. element_at ty row ∷ rest) (elements-take ty k j (drop (width ty) row)))

-- an element reads its own bytes alone
element_at-take : (ty : Datatype) (n : ℕ) (row : List ℕ) → width ty ≤ n → width ty ≤ length row → element_at ty (take n row) ≡ element_at ty row
element_at-take ty n row fits within =
    let enough : width ty ≤ length (take n row) = simp length-take (omega arith) in
    ap (element_of ty) (sym (little_from-append (width ty) (take n row) (drop n row) enough) ∙ ap (little_number (width ty)) (take-append-drop n row))

elements-front : (ty : Datatype) (k : ℕ) (row : List ℕ) → k * width ty ≤ length row → elements ty k (take (k * width ty) row) ≡ elements ty k row
elements-front ty zero row within = refl
elements-front ty (suc k) row within =
    let all : suc k * width ty ≡ width ty + k * width ty = omega arith in
    let front : element_at ty (take (suc k * width ty) row) ≡ element_at ty row = element_at-take ty (suc k * width ty) row (omega arith) (omega arith) in
    let behind : drop (width ty) (take (suc k * width ty) row) ≡ take (k * width ty) (drop (width ty) row) =
    ap (λ n. drop (width ty) (take n row)) all ∙ drop-take (width ty) (k * width ty) row in
    let rest : elements ty k (take (k * width ty) (drop (width ty) row)) ≡ elements ty k (drop (width ty) row) =
    elements-front ty k (drop (width ty) row) (simp length-drop (omega arith)) in
    ap (λ z. z ∷ elements ty k (drop (width ty) (take (suc k * width ty) row))) front
    ∙ ap (λ zs. element_at ty row ∷ zs) (ap (elements ty k) behind ∙ rest)

flat_map-drop : (ty : Datatype) (m : ℕ) (zs : List Element) → drop (m * width ty) (flat_map (element_bytes ty) zs) ≡ flat_map (element_bytes ty) (drop m zs)
flat_map-drop ty zero zs = rw (zero-mul (width ty)) refl
flat_map-drop ty (suc m) [] = drop-nil (suc m * width ty)
flat_map-drop ty (suc m) (z ∷ zs) =
    let len : length (element_bytes ty z) ≡ width ty = length-element_bytes ty z in
    let all : suc m * width ty ≡ length (element_bytes ty z) + m * width ty = omega (arith, len) in
    ap (λ n. drop n (element_bytes ty z ++ flat_map (element_bytes ty) zs)) all
    ∙ (drop-append-add (element_bytes ty z) (flat_map (element_bytes ty) zs) (m * width ty) ∙ flat_map-drop ty m zs)

flat_map-take : (ty : Datatype) (k : ℕ) (zs : List Element) → take (k * width ty) (flat_map (element_bytes ty) zs) ≡ flat_map (element_bytes ty) (take k zs)
flat_map-take ty zero zs = rw (zero-mul (width ty)) refl
flat_map-take ty (suc k) [] = take-nil (suc k * width ty)
flat_map-take ty (suc k) (z ∷ zs) =
    let len : length (element_bytes ty z) ≡ width ty = length-element_bytes ty z in
    let all : suc k * width ty ≡ length (element_bytes ty z) + k * width ty = omega (arith, len) in
    ap (λ n. take n (element_bytes ty z ++ flat_map (element_bytes ty) zs)) all
    ∙ (take-append-add (element_bytes ty z) (flat_map (element_bytes ty) zs) (k * width ty)
    ∙ ap (λ rest. element_bytes ty z ++ rest) (flat_map-take ty k zs))

zipped-drop : (op : Op) (ty : Datatype) (m : ℕ) (xs ys : List Element) → length xs ≡ length ys
    → zipped op ty (drop m xs) (drop m ys) ≡ drop m (zipped op ty xs ys)
zipped-drop op ty zero xs ys same = refl
zipped-drop op ty (suc m) [] [] same = refl
zipped-drop op ty (suc m) [] (y ∷ ys) same = absurd (omega arith)
zipped-drop op ty (suc m) (x ∷ xs) [] same = absurd (omega arith)
zipped-drop op ty (suc m) (x ∷ xs) (y ∷ ys) same = zipped-drop op ty m xs ys (omega arith)

zipped-take : (op : Op) (ty : Datatype) (k : ℕ) (xs ys : List Element) → zipped op ty (take k xs) (take k ys) ≡ take k (zipped op ty xs ys)
zipped-take op ty zero xs ys = refl
zipped-take op ty (suc k) [] ys = refl
zipped-take op ty (suc k) (x ∷ xs) [] = refl
zipped-take op ty (suc k) (x ∷ xs) (y ∷ ys) = ap (λ rest. applied op ty x y ∷ rest) (zipped-take op ty k xs ys)

length-elements : (ty : Datatype) (n : ℕ) (row : List ℕ) → length (elements ty n row) ≡ n
length-elements ty zero row = refl
length-elements ty (suc n) row = ap suc (length-elements ty n (drop (width ty) row))

count-of : (ty : Datatype) (n len : ℕ) → len ≡ n * width ty → len / width ty ≡ n
count-of ty n len e = ap (λ v. v / width ty) e ∙ mul-div_left n (width-some ty)

-- the elements of a part are those after the first m, c of them
elements-part : (ty : Datatype) (m c j : ℕ) (row : List ℕ) → m * width ty + c * width ty ≤ length row →
    elements ty c (part (m * width ty) (c * width ty) row) ≡ take c (drop m (elements ty (m + (c + j)) row))
elements-part ty m c j row within =
    elements-front ty c (drop (m * width ty) row) (simp length-drop (omega arith))
    ∙ (elements-take ty c j (drop (m * width ty) row)
    ∙ ap (take c) (elements-drop ty m (c + j) row))

-- a part of a combination is the combination of the parts
combined-part : (op : Op) (ty : Datatype) (m c j : ℕ) (x y : List ℕ) → length x ≡ (m + (c + j)) * width ty → length y ≡ length x →
    combined op ty (part (m * width ty) (c * width ty) x) (part (m * width ty) (c * width ty) y) ≡ part (m * width ty) (c * width ty) (combined op ty x y)
combined-part op ty m c j x y long same =
    let n : ℕ = m + (c + j) in
    let w : ℕ = width ty in
    let within : m * w + c * w ≤ length x = omega (arith, long) in
    let also : m * w + c * w ≤ length y = omega (arith, long, same) in
    let write : List Element → List ℕ = flat_map (element_bytes ty) in
    let xs : List Element = elements ty n x in
    let ys : List Element = elements ty n y in
    let alike : length xs ≡ length ys = length-elements ty n x ∙ sym (length-elements ty n y) in
    let alike_behind : length (drop m xs) ≡ length (drop m ys) = simp length-drop (ap (λ k. k - m) alike) in
    let zs : List Element = zipped op ty xs ys in
    ap (λ k. write (zipped op ty (elements ty k (part (m * w) (c * w) x)) (elements ty k (part (m * w) (c * w) y))))
    (count-of ty c (length (part (m * w) (c * w) x)) (length-part (m * w) (c * w) x within))
    ∙ (ap (λ front. write (zipped op ty front (elements ty c (part (m * w) (c * w) y)))) (elements-part ty m c j x within)
    ∙ (ap (λ front. write (zipped op ty (take c (drop m xs)) front)) (elements-part ty m c j y also)
    ∙ (ap write (zipped-take op ty c (drop m xs) (drop m ys) ∙ ap (take c) (zipped-drop op ty m xs ys alike))
    ∙ (sym (flat_map-take ty c (drop m zs))
    ∙ (ap (take (c * w)) (sym (flat_map-drop ty m zs))
    ∙ ap (λ k. part (m * w) (c * w) (write (zipped op ty (elements ty k x) (elements ty k y)))) (sym (count-of ty n (length x) long)))))))

pub combination-parts : (op : Op) (ty : Datatype) (m c j : ℕ) (rows : List (List ℕ)) → 0 < length rows
    → ((i : ℕ) → i < length rows → length (row_of rows i) ≡ (m + (c + j)) * width ty) →
    combination op ty (map (part (m * width ty) (c * width ty)) rows) ≡ part (m * width ty) (c * width ty) (combination op ty rows)
combination-parts op ty m c j [] some long = absurd (omega arith)
combination-parts op ty m c j (row ∷ []) some long = refl
combination-parts op ty m c j (row ∷ next ∷ rows) some long =
    let rest : (i : ℕ) → i < length (next ∷ rows) → length (row_of (next ∷ rows) i) ≡ (m + (c + j)) * width ty = λ i within. long (suc i) (omega arith) in
    ap (λ sum. combined op ty (part (m * width ty) (c * width ty) row) sum) (combination-parts op ty m c j (next ∷ rows) (omega arith) rest)
    ∙ combined-part op ty m c j row (combination op ty (next ∷ rows)) (long 0 (omega arith))
    (length-combination op ty ((m + (c + j)) * width ty) (next ∷ rows) (mul-mod_left (m + (c + j)) (width ty)) (omega arith) rest
    ∙ sym (long 0 (omega arith)))
