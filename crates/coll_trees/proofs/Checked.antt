-- what a checked signature is known to keep
use Rattle.std.proofs.Common.{◌≡◌, ℕ, ◌%◌, ◌<◌, Bool, true, false, cond, eqb, ltb, List, length, Option, Some, None, IsTrue, refl, sym, ap, ◌∙◌}
use Rattle.std.proofs.Common.{unwrap_or, ltb-true}
use Rattle.std.proofs.lemmas.Bool.{cond-true, false≢true}
use Rattle.std.proofs.lemmas.Option.{none-some}
use Rattle.std.proofs.Math.Nat.{mul-mod_left}
use Rattle.coll_kinds.specs.declared.signature.Signature.{Signature}
use Rattle.coll_kinds.specs.declared.operation.Op.{Op}
use Rattle.coll_kinds.specs.declared.operation.Op.TheVariants.{Sum}
use Rattle.coll_kinds.specs.declared.datatype.Datatype.{Datatype}
use Rattle.coll_kinds.specs.declared.refusal.SignatureFault.{SignatureFault}
use Rattle.coll_kinds.specs.declared.refusal.SignatureFault.TheVariants.{Root, Operation, Count, Size}
use Rattle.coll_kinds.specs.Common.{width, AreBytes, block_len, allowed, has_root, has_operation, root_fits, sizes_fit, broken}
use Rattle.coll_kinds.specs.Checks.{reduces, operation_fits, count_fits}
use Rattle.coll_ops.specs.Laws.{IsRow}

passes : (b : Bool) (x : Option SignatureFault) (y : SignatureFault) → cond b x (Some y) ≡ None → (b ≡ true) × (x ≡ None)
passes true x y h = (refl, h)
passes false x y h = absurd (none-some y (sym h))

-- the four tests
pub record IsChecked (sig : Signature) (n : ℕ) : Type 0 where
  pub root_is : root_fits sig n ≡ true
  pub operation_is : operation_fits sig ≡ true
  pub count_is : count_fits sig n ≡ true
  pub sizes_are : sizes_fit sig n n ≡ true

sizes_pass : (b : Bool) → cond b None (Some Size) ≡ None → b ≡ true
sizes_pass true h = refl
sizes_pass false h = absurd (none-some Size (sym h))

pub checked : (sig : Signature) (n : ℕ) → broken sig n ≡ None → IsChecked sig n
checked sig n h =
    let a = passes (root_fits sig n)
    (cond (operation_fits sig) (cond (count_fits sig n) (cond (sizes_fit sig n n) None (Some Size)) (Some Count)) (Some Operation)) Root h in
    let b = passes (operation_fits sig) (cond (count_fits sig n) (cond (sizes_fit sig n n) None (Some Size)) (Some Count)) Operation a.1 in
    let c = passes (count_fits sig n) (cond (sizes_fit sig n n) None (Some Size)) Count b.1 in
    record { root_is = a.0; operation_is = b.0; count_is = c.0; sizes_are = sizes_pass (sizes_fit sig n n) c.1 }

pub root_low : (sig : Signature) (n : ℕ) → IsChecked sig n → has_root sig.kind ≡ true → sig.root < n
root_low sig n c h = ltb-true sig.root n (sym (cond-true (has_root sig.kind) (ltb sig.root n) (eqb sig.root 0) h) ∙ c.root_is)

reduces_allowed : (o : Option Op) (ty : Datatype) → reduces o ty ≡ true → IsTrue (allowed (unwrap_or o Sum) ty)
reduces_allowed None ty h = absurd (false≢true h)
reduces_allowed (Some op) ty h = h

pub operation_allowed : (sig : Signature) (n : ℕ) → IsChecked sig n → has_operation sig.kind ≡ true → IsTrue (allowed (unwrap_or sig.op Sum) sig.ty)
operation_allowed sig n c h = reduces_allowed sig.op sig.ty (sym (cond-true (has_operation sig.kind) (reduces sig.op sig.ty) _ h) ∙ c.operation_is)

pub block_whole : (sig : Signature) → block_len sig % width sig.ty ≡ 0
block_whole sig = mul-mod_left sig.count (width sig.ty)

-- so a row of a block's bytes is one of the type
pub IsRow-block : (sig : Signature) (row : List ℕ) → length row ≡ block_len sig → AreBytes row → IsRow sig.ty row
IsRow-block sig row long bytes = record { whole = ap (λ k. k % width sig.ty) long ∙ block_whole sig; bytes = bytes }
