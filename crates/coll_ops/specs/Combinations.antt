-- The combination of rows of elements, place by place (MPI 4.1, 6.9.1).
use Rattle.std.specs.Prelude.{ℕ, zero, suc, ◌/◌, List, [], ◌∷◌, drop, length, flat_map}
use Rattle.coll_kinds.specs.declared.datatype.Datatype.{Datatype}
use Rattle.coll_kinds.specs.declared.operation.Op.{Op}
use Rattle.coll_kinds.specs.Elements.{Element, width, element_at, element_bytes}
use Rattle.coll_ops.specs.Operations.{applied}

-- the first count elements of a row
abbrev pub elements : Datatype → ℕ → List ℕ → List Element
elements ty zero row = []
elements ty (suc count) row = element_at ty row ∷ elements ty count (drop (width ty) row)

-- the operation place by place
abbrev pub zipped : Op → Datatype → List Element → List Element → List Element
zipped op ty [] others = []
zipped op ty (a ∷ rest) [] = []
zipped op ty (a ∷ rest) (b ∷ others) = applied op ty a b ∷ zipped op ty rest others

-- two rows of bytes, combined place by place
abbrev pub combined : Op → Datatype → List ℕ → List ℕ → List ℕ
combined op ty left right =
    let count = length left / width ty in
    flat_map (element_bytes ty) (zipped op ty (elements ty count left) (elements ty count right))

-- one row is itself; more rows are the first with the combination of the rest
abbrev pub combination : Op → Datatype → List (List ℕ) → List ℕ
combination op ty [] = []
combination op ty (row ∷ []) = row
combination op ty (row ∷ next ∷ rows) = combined op ty row (combination op ty (next ∷ rows))
