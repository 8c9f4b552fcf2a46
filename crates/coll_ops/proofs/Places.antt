-- Rows of elements, one place after the other.
use Rattle.std.proofs.Common.{◌≡◌, ℕ, zero, suc, ◌+◌, ◌*◌, ◌/◌, ◌-◌, ◌≤◌, ◌<◌, List, [], ◌++◌, length, take, drop, refl, arith, ap, sym, ◌∙◌}
use Rattle.std.proofs.Common.{flat_map, append_assoc, add-one, length-append}
use Rattle.std.proofs.Math.Nat.{zero-mul, div-mul-le_self, mul-le-mul_right}
use Rattle.std.proofs.Math.ListN.{drop_of_length-le}
use Rattle.std.proofs.Math.Seq.{drop-append_seam}
use Rattle.std.proofs.lemmas.List.{append-nil, drop-drop, length-drop}
use lib.Seq.{length-take-le}
use Rattle.std.proofs.lemmas.Grind.{common_steps}
use Rattle.std.proofs.lemmas.Slice.{between_to_end}
use borrow.Rule.Slice.PartMut.{put_mid}
use Rattle.byteorder.specs.Numbers.{length-bytes_low_first}
use Rattle.coll_kinds.specs.declared.datatype.Datatype.{Datatype}
use Rattle.coll_kinds.specs.declared.operation.Op.{Op}
use Rattle.coll_kinds.specs.Elements.{Element, width, element_at, element_bytes}
use Rattle.coll_ops.specs.Operations.{applied}
use Rattle.coll_ops.specs.Combinations.{elements, zipped}

-- the bytes of the first places of a combination
abbrev pub places : Op → Datatype → ℕ → List ℕ → List ℕ → List ℕ
places op ty count left right = flat_map (element_bytes ty) (zipped op ty (elements ty count left) (elements ty count right))

-- one more place stands at the end
pub places-suc : (op : Op) (ty : Datatype) (count : ℕ) (left right : List ℕ) →
    places op ty (suc count) left right ≡
    places op ty count left right
    ++ element_bytes ty (applied op ty (element_at ty (drop (count * width ty) left)) (element_at ty (drop (count * width ty) right)))
places-suc op ty zero left right = rw (zero-mul (width ty)) (append-nil (element_bytes ty (applied op ty (element_at ty left) (element_at ty right))))
places-suc op ty (suc count) left right =
    let first : List ℕ = element_bytes ty (applied op ty (element_at ty left) (element_at ty right)) in
    let at_next : (row : List ℕ) → drop (count * width ty) (drop (width ty) row) ≡ drop (suc count * width ty) row =
    λ row. drop-drop (count * width ty) (width ty) row ∙ ap (λ n. drop n row) (omega arith) in
    ap (λ rest. first ++ rest) (places-suc op ty count (drop (width ty) left) (drop (width ty) right))
    ∙ (rw (at_next left, at_next right) (sym (append_assoc first (places op ty count (drop (width ty) left) (drop (width ty) right)) _)))

pub length-element_bytes : (ty : Datatype) (z : Element) → length (element_bytes ty z) ≡ width ty
length-element_bytes ty z = length-bytes_low_first 0 (width ty) _

-- the front of a row after a write behind it
pub take-put_mid-front : (a k : ℕ) (row first rest : List ℕ) (n : ℕ) → n ≡ a + length first → a ≤ length row →
    take n (put_mid a k row (first ++ rest)) ≡ take a row ++ first
take-put_mid-front a k row first rest n e within = grind (arith, common_steps, length-append {A = ℕ})

-- the rest of a row, as the code's slices have it
take-drop_all : (at : ℕ) (row : List ℕ) → take (length row - at) (drop at row) ≡ drop at row
take-drop_all at row = between_to_end row at (length row) (omega arith)

-- one turn of the loop over the places
pub take-put_mid-place : (op : Op) (ty : Datatype) (w place k : ℕ) (left right row new rest : List ℕ) → w ≡ width ty → place * w ≤ length row →
    new ≡ element_bytes ty (applied op ty (element_at ty (take (length left - place * w) (drop (place * w) left)))
    (element_at ty (take (length right - place * w) (drop (place * w) right)))) ++ rest →
    take (place * w) row ≡ places op ty place left right →
    take ((place + 1) * w) (put_mid (place * w) k row new) ≡ places op ty (place + 1) left right
take-put_mid-place op ty w place k left right row new rest w_is within new_is so_far =
    let a : Element = element_at ty (take (length left - place * w) (drop (place * w) left)) in
    let b : Element = element_at ty (take (length right - place * w) (drop (place * w) right)) in
    let e : List ℕ = element_bytes ty (applied op ty a b) in
    let len : length e ≡ width ty = length-element_bytes ty (applied op ty a b) in
    let end : (place + 1) * w ≡ place * w + length e = omega (arith, len, w_is) in
    let read_of : (row : List ℕ) → element_at ty (take (length row - place * w) (drop (place * w) row)) ≡ element_at ty (drop (place * width ty) row) =
    λ row. ap (element_at ty) (take-drop_all (place * w) row ∙ ap (λ v. drop (place * v) row) w_is) in
    let same : e ≡ element_bytes ty (applied op ty (element_at ty (drop (place * width ty) left)) (element_at ty (drop (place * width ty) right))) =
    rw (read_of left, read_of right) refl in
    rw (new_is, add-one)
    (take-put_mid-front (place * w) k row e rest (suc place * w) (rw (sym (add-one place)) end) within
    ∙ (ap (λ front. front ++ e) so_far ∙ (ap (λ x. places op ty place left right ++ x) same ∙ sym (places-suc op ty place left right))))

-- what stands after a write to the rest of a row
drop-put_mid-front : (a k : ℕ) (row first rest : List ℕ) (n : ℕ) → n ≡ a + length first → a ≤ length row → k ≡ length row - a →
    drop n (put_mid a k row (first ++ rest)) ≡ rest
drop-put_mid-front a k row first rest n e within whole =
    let front : List ℕ = take a row ++ first in
    let nothing : drop k (drop a row) ≡ [] = drop_of_length-le (drop a row) (let le : length (drop a row) ≤ k = omega (arith, length-drop a row) in le) in
    let split : take a row ++ (first ++ rest ++ drop k (drop a row)) ≡ front ++ rest =
    ap (λ tail. take a row ++ tail) (ap (λ tail. first ++ rest ++ tail) nothing ∙ append-nil (first ++ rest)) ∙ sym (append_assoc (take a row) first rest) in
    let len : n ≡ length front = omega (arith, length-append (take a row) first, length-take-le a row within) in
    ap (drop n) split ∙ ap (λ m. drop m (front ++ rest)) len ∙ drop-append_seam front rest

-- one turn of the loop over the places of the left row itself: the places behind are those of the row as it was
pub put_mid-place_into : (op : Op) (ty : Datatype) (w place k : ℕ) (left right row new : List ℕ) → w ≡ width ty
    → place * w ≤ length row → k ≡ length row - place * w →
    new ≡ element_bytes ty (applied op ty (element_at ty (take (length row - place * w) (drop (place * w) row)))
    (element_at ty (take (length right - place * w) (drop (place * w) right))))
    ++ drop (width ty) (take (length row - place * w) (drop (place * w) row)) →
    take (place * w) row ≡ places op ty place left right → drop (place * w) row ≡ drop (place * w) left →
    (take ((place + 1) * w) (put_mid (place * w) k row new) ≡ places op ty (place + 1) left right)
    × (drop ((place + 1) * w) (put_mid (place * w) k row new) ≡ drop ((place + 1) * w) left)
put_mid-place_into op ty w place k left right row new w_is within whole new_is so_far behind =
    let here : List ℕ = take (length row - place * w) (drop (place * w) row) in
    let b : Element = element_at ty (take (length right - place * w) (drop (place * w) right)) in
    let first : List ℕ = element_bytes ty (applied op ty (element_at ty here) b) in
    let as_it_was : here ≡ take (length left - place * w) (drop (place * w) left) =
    take-drop_all (place * w) row ∙ behind ∙ sym (take-drop_all (place * w) left) in
    let len : length first ≡ width ty = length-element_bytes ty (applied op ty (element_at ty here) b) in
    let end : (place + 1) * w ≡ place * w + length first = omega (arith, len, w_is) in
    let rest : drop (width ty) here ≡ drop ((place + 1) * w) left =
    ap (drop (width ty)) (take-drop_all (place * w) row ∙ behind) ∙ drop-drop (width ty) (place * w) left ∙ ap (λ n. drop n left) (omega (arith, w_is)) in (
      take-put_mid-place op ty w place k left right row new (drop (width ty) here) w_is within
          (new_is ∙ ap (λ (x : List ℕ). element_bytes ty (applied op ty (element_at ty x) b) ++ drop (width ty) here) as_it_was) so_far,
      ap (λ x. drop ((place + 1) * w) (put_mid (place * w) k row x)) new_is
          ∙ drop-put_mid-front (place * w) k row first (drop (width ty) here) ((place + 1) * w) end within whole ∙ rest,
    )

-- a place below the count lies within the row
pub place-within : (place w n : ℕ) → place < n / w → place * w ≤ n
place-within place w n h = omega (arith, mul-le-mul_right w (let le : place ≤ n / w = omega arith in le), div-mul-le_self n w)
