-- Where all members get the same, one value stands for each of them.
use Rattle.std.proofs.Common.{◌≡◌, ℕ, zero, suc, ◌+◌, true, List, ◌∷◌, map, refl, sym, ap, ◌∙◌}
use Rattle.std.specs.Prelude.{unwrap_or}
use Rattle.std.specs.List.{range_with_len}
use Rattle.coll_kinds.specs.declared.datatype.Datatype.{Datatype}
use Rattle.coll_kinds.specs.declared.kind.Kind.{Kind}
use Rattle.coll_kinds.specs.declared.kind.Kind.TheVariants.{Barrier, Bcast, Gather, Scatter, Allgather, Allgatherv, Alltoall, Reduce, Allreduce}
use Rattle.coll_kinds.specs.declared.kind.Kind.TheVariants.{Rsblock, Scan, Exscan}
use Rattle.coll_kinds.specs.declared.operation.Op.{Op}
use Rattle.coll_kinds.specs.declared.operation.Op.TheVariants.{Sum}
use Rattle.coll_kinds.specs.declared.signature.Signature.{Signature}
use Rattle.coll_kinds.specs.Lengths.{block_len}
use Rattle.coll_ops.specs.Values.{value_by, value}
use Rattle.coll_script.specs.Outcomes.{is_shared}

shared-value_by : (kind : Kind) (op : Op) (ty : Datatype) (b root : ℕ) (given : List (List ℕ)) (r : ℕ) → is_shared kind ≡ true
    → value_by kind op ty b root given r ≡ value_by kind op ty b root given 0
shared-value_by Barrier op ty b root given r is = refl
shared-value_by Bcast op ty b root given r is = refl
shared-value_by Gather op ty b root given r is = absurd cc
shared-value_by Scatter op ty b root given r is = absurd cc
shared-value_by Allgather op ty b root given r is = refl
shared-value_by Allgatherv op ty b root given r is = refl
shared-value_by Alltoall op ty b root given r is = absurd cc
shared-value_by Reduce op ty b root given r is = absurd cc
shared-value_by Allreduce op ty b root given r is = refl
shared-value_by Rsblock op ty b root given r is = absurd cc
shared-value_by Scan op ty b root given r is = absurd cc
shared-value_by Exscan op ty b root given r is = absurd cc

module _ (sig : Signature) (given : List (List ℕ)) (row : List ℕ) (shared : is_shared sig.kind ≡ true) (is : row ≡ value sig given 0) where
  pub shared-values : (first n : ℕ) → map (λ member. row) (range_with_len first n) ≡ map (value sig given) (range_with_len first n)
  shared-values first zero = refl
  shared-values first (suc n) =
      let here : row ≡ value sig given first = is ∙ sym (shared-value_by sig.kind (unwrap_or sig.op Sum) sig.ty (block_len sig) sig.root given first shared) in
      ap (λ (x : List ℕ). x ∷ map (λ member. row) (range_with_len (first + 1) n)) here
      ∙ ap (λ (xs : List (List ℕ)). value sig given first ∷ xs) (shared-values (first + 1) n)
