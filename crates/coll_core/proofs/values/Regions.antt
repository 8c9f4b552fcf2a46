-- Regions of a buffer of the same length.
use Rattle.std.proofs.Common.{◌≡◌, ℕ, List, length, sym, subst}
use Rattle.coll_sched.specs.declared.region.Region.{Region}
use Rattle.coll_sched.specs.Regions.{Inside}

pub inside_same : (a b : List ℕ) (g : Region) → a ≡ b → Inside (length b) g → Inside (length a) g
inside_same a b g same inside = subst (λ (l : List ℕ). Inside (length l) g) (sym same) inside
