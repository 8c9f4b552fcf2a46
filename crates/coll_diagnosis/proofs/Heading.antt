-- What begins with some words still does where more follows.
use Rattle.std.proofs.Common.{◌≡◌, ℕ, List, ◌++◌, Result, Ok, Err, ap, ◌∙◌, append_assoc}
use Rattle.std.specs.Prelude.{IfOk}
use Rattle.coll_diagnosis.specs.Verdicts.{Begins}

pub begins-ok : {X E : Type 0} (bytes : X → List ℕ) (r : Result X E) (front head rest : List ℕ) → Begins front head
    → IfOk r (λ x. bytes x ≡ head ++ rest) → IfOk r (λ x. Begins front (bytes x))
begins-ok bytes (Ok x) front head rest begins is = (begins.0 ++ rest, is ∙ (ap (λ (h : List ℕ). h ++ rest) begins.1 ∙ append_assoc front begins.0 rest))
begins-ok bytes (Err e) front head rest begins is = tt
