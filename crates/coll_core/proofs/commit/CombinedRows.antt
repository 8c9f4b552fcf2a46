-- rows that are combined a block at a time
use Rattle.std.proofs.Common.{◌≡◌, ℕ, zero, suc, ◌+◌, ◌-◌, ◌*◌, ◌/◌, ◌%◌, ◌<◌, ◌≤◌, List, [], ◌∷◌, ◌++◌, take, drop, length, min, sym, ap, subst, ◌∙◌}
use Rattle.std.proofs.Common.{arith, take_all}
use Rattle.std.proofs.lemmas.Nat.{div-add-mod'}
use Rattle.std.proofs.Math.Seq.{take-add}
use Rattle.coll_kinds.specs.declared.datatype.Datatype.{Datatype}
use Rattle.coll_kinds.specs.declared.datatype.Datatype.TheVariants.{I8, I16, I32, I64, U8, U16, U32, U64, Byte, Pair}
use Rattle.coll_kinds.specs.declared.operation.Op.{Op}
use Rattle.coll_kinds.specs.Elements.{width}
use Rattle.coll_core.specs.declared.combined.TheConstants.{BLOCK}
use Rattle.coll_ops.specs.Combinations.{combined}
use Rattle.coll_ops.specs.Values.{row_of}
use Rattle.coll_ops.proofs.Blocks.{combination-parts}
use Rattle.coll_ops.proofs.RowLists.{length-combined}

-- a block has whole elements: where it ends a row, the row and its front have
pub block-whole : (ty : Datatype) (len done n : ℕ) → len % width ty ≡ 0 → done % width ty ≡ 0 → done ≤ len → n ≡ min (len - done) BLOCK → n % width ty ≡ 0
block-whole I8 len done n all front within is = omega arith
block-whole I16 len done n all front within is = omega arith
block-whole I32 len done n all front within is = omega arith
block-whole I64 len done n all front within is = omega arith
block-whole U8 len done n all front within is = omega arith
block-whole U16 len done n all front within is = omega arith
block-whole U32 len done n all front within is = omega arith
block-whole U64 len done n all front within is = omega arith
block-whole Byte len done n all front within is = omega arith
block-whole Pair len done n all front within is = omega arith

-- two rows of whole elements, one after the other
pub rows-whole : (ty : Datatype) (m n : ℕ) → m % width ty ≡ 0 → n % width ty ≡ 0 → (m + n) % width ty ≡ 0
rows-whole I8 m n a b = omega arith
rows-whole I16 m n a b = omega arith
rows-whole I32 m n a b = omega arith
rows-whole I64 m n a b = omega arith
rows-whole U8 m n a b = omega arith
rows-whole U16 m n a b = omega arith
rows-whole U32 m n a b = omega arith
rows-whole U64 m n a b = omega arith
rows-whole Byte m n a b = omega arith
rows-whole Pair m n a b = omega arith

-- a row's elements are those before a block, the block's, and those after it
blocks-long : (ty : Datatype) (len done n : ℕ) → len % width ty ≡ 0 → done % width ty ≡ 0 → n % width ty ≡ 0 → done + n ≤ len →
    len ≡ (done / width ty + (n / width ty + (len - (done + n)) / width ty)) * width ty
blocks-long I8 len done n all front block within = omega arith
blocks-long I16 len done n all front block within = omega arith
blocks-long I32 len done n all front block within = omega arith
blocks-long I64 len done n all front block within = omega arith
blocks-long U8 len done n all front block within = omega arith
blocks-long U16 len done n all front block within = omega arith
blocks-long U32 len done n all front block within = omega arith
blocks-long U64 len done n all front block within = omega arith
blocks-long Byte len done n all front block within = omega arith
blocks-long Pair len done n all front block within = omega arith

-- a block of a combination is the combination of the blocks
block-combined : (op : Op) (ty : Datatype) (left right : List ℕ) (m c j : ℕ) → length left ≡ (m + (c + j)) * width ty → length right ≡ length left →
    combined op ty (take (c * width ty) (drop (m * width ty) left)) (take (c * width ty) (drop (m * width ty) right))
    ≡ take (c * width ty) (drop (m * width ty) (combined op ty left right))
block-combined op ty left right m c j long same = combination-parts op ty m c j (left ∷ right ∷ []) (omega arith) each
  where
    each : (i : ℕ) → i < 2 → length (row_of (left ∷ right ∷ []) i) ≡ (m + (c + j)) * width ty
    each zero below = long
    each (suc zero) below = same ∙ long
    each (suc (suc i)) below = absurd (omega arith)

-- the same by the numbers of their bytes
block-at : (op : Op) (ty : Datatype) (left right : List ℕ) (done n : ℕ) → length left % width ty ≡ 0 → length right ≡ length left
    → done % width ty ≡ 0 → n % width ty ≡ 0 → done + n ≤ length left →
    combined op ty (take n (drop done left)) (take n (drop done right)) ≡ take n (drop done (combined op ty left right))
block-at op ty left right done n whole same front block within =
    let w : ℕ = width ty in
    let at : done / w * w ≡ done = omega (arith, div-add-mod' done w) in
    let count : n / w * w ≡ n = omega (arith, div-add-mod' n w) in
    let rest : ℕ = (length left - (done + n)) / w in
    let long : length left ≡ (done / w + (n / w + rest)) * w = blocks-long ty (length left) done n whole front block within in
    subst (λ d. combined op ty (take n (drop d left)) (take n (drop d right)) ≡ take n (drop d (combined op ty left right))) at
    (subst (λ k. combined op ty (take k (drop (done / w * w) left)) (take k (drop (done / w * w) right))
    ≡ take k (drop (done / w * w) (combined op ty left right))) count
    (block-combined op ty left right (done / w) (n / w) rest long same))

-- the front of a combination with one block more, as the code's slices have it
pub front-more : (op : Op) (ty : Datatype) (left right row more : List ℕ) (done n : ℕ) → length left % width ty ≡ 0
    → length right ≡ length left → done % width ty ≡ 0 → n % width ty ≡ 0 → done + n ≤ length left →
    row ≡ take done (combined op ty left right)
    → more ≡ row ++ combined op ty (take (done + n - done) (drop done left)) (take (done + n - done) (drop done right))
    → more ≡ take (done + n) (combined op ty left right)
front-more op ty left right row more done n whole same front block within was is =
    let all : List ℕ = combined op ty left right in
    let count : done + n - done ≡ n = omega arith in
    is
    ∙ (ap (λ k. row ++ combined op ty (take k (drop done left)) (take k (drop done right))) count
    ∙ (ap (λ xs. xs ++ combined op ty (take n (drop done left)) (take n (drop done right))) was
    ∙ (ap (λ xs. take done all ++ xs) (block-at op ty left right done n whole same front block within)
    ∙ sym (take-add done n all))))

-- all of it
pub front-whole : (op : Op) (ty : Datatype) (left right row : List ℕ) (done : ℕ) → length left % width ty ≡ 0
    → length left ≤ done → row ≡ take done (combined op ty left right) → row ≡ combined op ty left right
front-whole op ty left right row done whole ends was = was ∙ take_all done (combined op ty left right) (omega (arith, length-combined op ty left right whole))
