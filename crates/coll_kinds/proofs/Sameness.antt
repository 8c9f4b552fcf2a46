-- Two signatures are the same exactly where they are equal.
use Rattle.std.proofs.Common.{◌≡◌, ℕ, zero, suc, true, eqb, List, [], ◌∷◌, Option, Some, None, refl, ap, subst, sym, ◌∙◌}
use Rattle.std.proofs.lemmas.Bool.{eqb-true, eq-eqb, and_parts}
use Rattle.std.specs.Bool.{Decides}
use Rattle.std.specs.Cmp.Derive.{both_true}
use Rattle.coll_kinds.specs.declared.datatype.Datatype.{Datatype}
use Rattle.coll_kinds.specs.declared.datatype.Datatype.TheVariants.{I8, I16, I32, I64, U8, U16, U32, U64, Byte, Pair}
use Rattle.coll_kinds.specs.declared.operation.Op.{Op}
use Rattle.coll_kinds.specs.declared.operation.Op.TheVariants.{Max, Min, Sum, Prod, Land, Lor, Lxor, Band, Bor, Bxor, LastNz, MaxLoc, MinLoc}
use Rattle.coll_kinds.specs.declared.kind.Kind.{Kind}
use Rattle.coll_kinds.specs.declared.kind.Kind.TheVariants.{Barrier, Bcast, Gather, Scatter, Allgather, Allgatherv, Alltoall, Reduce, Allreduce}
use Rattle.coll_kinds.specs.declared.kind.Kind.TheVariants.{Rsblock, Scan, Exscan}
use Rattle.coll_kinds.specs.declared.kind.Mode.{Mode}
use Rattle.coll_kinds.specs.declared.kind.Mode.TheVariants.{Once, Persistent}
use Rattle.coll_kinds.specs.declared.signature.Signature.{Signature}
use Rattle.coll_kinds.specs.Sameness.{kind_number, mode_number, operation_number, datatype_number, same_numbers, same_counts, same_signature}

-- each number gives its word back
abbrev kind_at : ℕ → Kind
kind_at zero = Barrier
kind_at (suc zero) = Bcast
kind_at (suc (suc zero)) = Gather
kind_at (suc (suc (suc zero))) = Scatter
kind_at (suc (suc (suc (suc zero)))) = Allgather
kind_at (suc (suc (suc (suc (suc zero))))) = Allgatherv
kind_at (suc (suc (suc (suc (suc (suc zero)))))) = Alltoall
kind_at (suc (suc (suc (suc (suc (suc (suc zero))))))) = Reduce
kind_at (suc (suc (suc (suc (suc (suc (suc (suc zero)))))))) = Allreduce
kind_at (suc (suc (suc (suc (suc (suc (suc (suc (suc zero))))))))) = Rsblock
kind_at (suc (suc (suc (suc (suc (suc (suc (suc (suc (suc zero)))))))))) = Scan
kind_at (suc (suc (suc (suc (suc (suc (suc (suc (suc (suc (suc n))))))))))) = Exscan

kind_at-kind_number : (kind : Kind) → kind_at (kind_number kind) ≡ kind
kind_at-kind_number Barrier = refl
kind_at-kind_number Bcast = refl
kind_at-kind_number Gather = refl
kind_at-kind_number Scatter = refl
kind_at-kind_number Allgather = refl
kind_at-kind_number Allgatherv = refl
kind_at-kind_number Alltoall = refl
kind_at-kind_number Reduce = refl
kind_at-kind_number Allreduce = refl
kind_at-kind_number Rsblock = refl
kind_at-kind_number Scan = refl
kind_at-kind_number Exscan = refl

abbrev mode_at : ℕ → Mode
mode_at zero = Once
mode_at (suc n) = Persistent

mode_at-mode_number : (mode : Mode) → mode_at (mode_number mode) ≡ mode
mode_at-mode_number Once = refl
mode_at-mode_number Persistent = refl

abbrev operation_at : ℕ → Option Op
operation_at zero = None
operation_at (suc zero) = Some Max
operation_at (suc (suc zero)) = Some Min
operation_at (suc (suc (suc zero))) = Some Sum
operation_at (suc (suc (suc (suc zero)))) = Some Prod
operation_at (suc (suc (suc (suc (suc zero))))) = Some Land
operation_at (suc (suc (suc (suc (suc (suc zero)))))) = Some Lor
operation_at (suc (suc (suc (suc (suc (suc (suc zero))))))) = Some Lxor
operation_at (suc (suc (suc (suc (suc (suc (suc (suc zero)))))))) = Some Band
operation_at (suc (suc (suc (suc (suc (suc (suc (suc (suc zero))))))))) = Some Bor
operation_at (suc (suc (suc (suc (suc (suc (suc (suc (suc (suc zero)))))))))) = Some Bxor
operation_at (suc (suc (suc (suc (suc (suc (suc (suc (suc (suc (suc zero))))))))))) = Some LastNz
operation_at (suc (suc (suc (suc (suc (suc (suc (suc (suc (suc (suc (suc zero)))))))))))) = Some MaxLoc
operation_at (suc (suc (suc (suc (suc (suc (suc (suc (suc (suc (suc (suc (suc n))))))))))))) = Some MinLoc

operation_at-operation_number : (op : Option Op) → operation_at (operation_number op) ≡ op
operation_at-operation_number None = refl
operation_at-operation_number (Some Max) = refl
operation_at-operation_number (Some Min) = refl
operation_at-operation_number (Some Sum) = refl
operation_at-operation_number (Some Prod) = refl
operation_at-operation_number (Some Land) = refl
operation_at-operation_number (Some Lor) = refl
operation_at-operation_number (Some Lxor) = refl
operation_at-operation_number (Some Band) = refl
operation_at-operation_number (Some Bor) = refl
operation_at-operation_number (Some Bxor) = refl
operation_at-operation_number (Some LastNz) = refl
operation_at-operation_number (Some MaxLoc) = refl
operation_at-operation_number (Some MinLoc) = refl

abbrev datatype_at : ℕ → Datatype
datatype_at zero = I8
datatype_at (suc zero) = I16
datatype_at (suc (suc zero)) = I32
datatype_at (suc (suc (suc zero))) = I64
datatype_at (suc (suc (suc (suc zero)))) = U8
datatype_at (suc (suc (suc (suc (suc zero))))) = U16
datatype_at (suc (suc (suc (suc (suc (suc zero)))))) = U32
datatype_at (suc (suc (suc (suc (suc (suc (suc zero))))))) = U64
datatype_at (suc (suc (suc (suc (suc (suc (suc (suc zero)))))))) = Byte
datatype_at (suc (suc (suc (suc (suc (suc (suc (suc (suc n))))))))) = Pair

datatype_at-datatype_number : (ty : Datatype) → datatype_at (datatype_number ty) ≡ ty
datatype_at-datatype_number I8 = refl
datatype_at-datatype_number I16 = refl
datatype_at-datatype_number I32 = refl
datatype_at-datatype_number I64 = refl
datatype_at-datatype_number U8 = refl
datatype_at-datatype_number U16 = refl
datatype_at-datatype_number U32 = refl
datatype_at-datatype_number U64 = refl
datatype_at-datatype_number Byte = refl
datatype_at-datatype_number Pair = refl

-- what has the same number is the same
by_number : {W : Type 0} (number : W → ℕ) (at : ℕ → W) → ((w : W) → at (number w) ≡ w) → (a b : W) → eqb (number a) (number b) ≡ true → a ≡ b
by_number number at back a b same = sym (back a) ∙ ap at (eqb-true (number a) (number b) same) ∙ back b

same_numbers-equal : (a b : List ℕ) → same_numbers a b ≡ true → a ≡ b
same_numbers-equal [] [] same = refl
same_numbers-equal [] (b ∷ others) same = absurd cc
same_numbers-equal (a ∷ rest) [] same = absurd cc
same_numbers-equal (a ∷ rest) (b ∷ others) same =
    let parts = and_parts (eqb a b) (same_numbers rest others) same in
    ap (λ (x : ℕ). x ∷ rest) (eqb-true a b parts.0) ∙ ap (λ (xs : List ℕ). b ∷ xs) (same_numbers-equal rest others parts.1)

same_counts-equal : (a b : Option (List ℕ)) → same_counts a b ≡ true → a ≡ b
same_counts-equal None None same = refl
same_counts-equal None (Some other) same = absurd cc
same_counts-equal (Some one) None same = absurd cc
same_counts-equal (Some one) (Some other) same = ap Some (same_numbers-equal one other same)

same_signature-equal : (a b : Signature) → same_signature a b ≡ true → a ≡ b
same_signature-equal a b same =
    let each = and_parts _ _ same in
    let count = and_parts _ _ each.0 in
    let ty = and_parts _ _ count.0 in
    let op = and_parts _ _ ty.0 in
    let root = and_parts _ _ op.0 in
    let mode = and_parts _ _ root.0 in
    let kind-is : a.kind ≡ b.kind = by_number kind_number kind_at kind_at-kind_number a.kind b.kind mode.0 in
    let mode-is : a.mode ≡ b.mode = by_number mode_number mode_at mode_at-mode_number a.mode b.mode mode.1 in
    let root-is : a.root ≡ b.root = eqb-true a.root b.root root.1 in
    let op-is : a.op ≡ b.op = by_number operation_number operation_at operation_at-operation_number a.op b.op op.1 in
    let ty-is : a.ty ≡ b.ty = by_number datatype_number datatype_at datatype_at-datatype_number a.ty b.ty ty.1 in
    let count-is : a.count ≡ b.count = eqb-true a.count b.count count.1 in
    let each-is : a.each ≡ b.each = same_counts-equal a.each b.each each.1 in
    λ i. record { kind = kind-is i; mode = mode-is i; root = root-is i; op = op-is i; ty = ty-is i; count = count-is i; each = each-is i }

eqb-self : (n : ℕ) → eqb n n ≡ true
eqb-self n = eq-eqb n n refl

same_numbers-self : (a : List ℕ) → same_numbers a a ≡ true
same_numbers-self [] = refl
same_numbers-self (a ∷ rest) = both_true (eqb-self a) (same_numbers-self rest)

same_counts-self : (a : Option (List ℕ)) → same_counts a a ≡ true
same_counts-self None = refl
same_counts-self (Some counts) = same_numbers-self counts

same_signature-self : (a : Signature) → same_signature a a ≡ true
same_signature-self a =
    both_true (both_true (both_true (both_true (both_true
    (both_true (eqb-self (kind_number a.kind)) (eqb-self (mode_number a.mode))) (eqb-self a.root)) (eqb-self (operation_number a.op)))
    (eqb-self (datatype_number a.ty))) (eqb-self a.count)) (same_counts-self a.each)

pub same_signature-Decides : (a b : Signature) → Decides (same_signature a b) (a ≡ b)
same_signature-Decides a b = (same_signature-equal a b, λ e. subst (λ c. same_signature a c ≡ true) e (same_signature-self a))
