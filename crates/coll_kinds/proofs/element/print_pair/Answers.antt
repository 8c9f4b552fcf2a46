use Rattle.std.proofs.Common.{◌≡◌, List, ℕ, rules, ◌++◌, ◌∷◌, [], ◌-◌, ◌/◌, ◌%◌, ◌^◌, length, take, drop, ap, ◌∙◌, arith, append_assoc}
use Rattle.std.specs.Fmt.{signed_decimal}
use Rattle.std.proofs.lemmas.Slice.{between_to_end}
use Rattle.byteorder.specs.Endian.{little_number}
use Rattle.coll_kinds.specs.declared.datatype.Datatype.TheVariants.{I32}
use Rattle.coll_kinds.specs.Elements.{AreBytes, number_of}
use Rattle.coll_kinds.proofs.Pairs.{OnOk-map, low_half, high_half}
use Rattle.coll_kinds.proofs.element.print_pair.Goals as goal

pub returns-clause-ok : goal.returns-clause-ok
returns-clause-ok c =
    let row = c.args.bytes.now in
    let bytes : AreBytes row = λ i. search rules in
    let value : signed_decimal (number_of I32 (little_number 4 row)) ≡ signed_decimal (number_of I32 (little_number 8 row % 2 ^ 32)) =
    ap (λ n. signed_decimal (number_of I32 n)) (low_half row bytes) in
    let index : signed_decimal (number_of I32 (little_number 4 (take (length row - 4) (drop 4 row))))
    ≡ signed_decimal (number_of I32 (little_number 8 row / 2 ^ 32)) =
    ap (λ r. signed_decimal (number_of I32 (little_number 4 r))) (between_to_end row 4 (length row) (omega arith))
    ∙ ap (λ n. signed_decimal (number_of I32 n)) (high_half row bytes) in
    let front : c.push.new.self.items ≡ (c.args.out.now.items ++ signed_decimal (number_of I32 (little_number 4 row))) ++ 44 ∷ [] =
    c.in_ok-push.ensures.items ∙ ap (λ (xs : List ℕ). xs ++ 44 ∷ []) c.in_ok-print_number.ensures.ok in
    let assoc : (a x y : List ℕ) → ((a ++ x) ++ 44 ∷ []) ++ y ≡ a ++ (x ++ 44 ∷ y) = λ a x y. simp append_assoc in
    OnOk-map
    (λ printed. printed
    ∙ (ap (λ (xs : List ℕ). xs ++ signed_decimal (number_of I32 (little_number 4 (take (length row - 4) (drop 4 row))))) front
    ∙ (assoc c.args.out.now.items _ _
    ∙ (ap (λ (x : List ℕ). c.args.out.now.items ++ (x ++ 44 ∷ signed_decimal (number_of I32 (little_number 4 (take (length row - 4) (drop 4 row)))))) value
    ∙ ap (λ (y : List ℕ). c.args.out.now.items ++ (signed_decimal (number_of I32 (little_number 8 row % 2 ^ 32)) ++ 44 ∷ y)) index))))
    c.print_number-2.result c.print_number-2.ensures.ok
