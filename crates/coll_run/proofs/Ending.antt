-- What holds of a result, at Ok.
use Rattle.std.proofs.Common.{◌≡◌, ℕ, List, Vec, Ok, Err, ◌∙◌}
use Rattle.std.specs.Prelude.{Result, IfErr, IfOk, OnOk}
use Rattle.std.specs.Global.{Global}

pub always-ok : {T E P : Type 0} (r : Result T E) → P → OnOk r P
always-ok (Ok x) p = p
always-ok (Err e) p = tt

-- what was handed out is what is meant
pub meant-ok : {E P : Type 0} (r : Result (Vec ℕ Global) E) (told meant : List ℕ)
    → IfOk r (λ out. out.items ≡ told) → OnOk r P → (P → told ≡ meant) → IfOk r (λ out. out.items ≡ meant)
meant-ok (Ok out) told meant is p same = is ∙ same p
meant-ok (Err e) told meant is p same = tt

pub weaker-err : {T E : Type 0} (P Q : E → Type 0) → ((e : E) → P e → Q e) → (r : Result T E) → IfErr r P → IfErr r Q
weaker-err P Q f (Ok x) p = tt
weaker-err P Q f (Err e) p = f e p
