-- What holds below a number and at it.
use Rattle.std.proofs.Common.{◌≡◌, ◌<◌, ◌+◌, ℕ, Bool, true, false, nat_eq, refl, subst, sym, arith}
use Rattle.std.proofs.lemmas.Bool.Decides.{nat_tests}

equal : (m n : ℕ) → true ≡ nat_eq m n → m ≡ n
equal m n e = grind (arith, nat_tests)

less : (m n : ℕ) → false ≡ nat_eq m n → m < n + 1 → m < n
less m n e h = grind (arith, nat_tests)

at_or_below : (P : ℕ → Type 0) (n m : ℕ) (same : Bool) → same ≡ nat_eq m n
    → ((k : ℕ) → k < n → P k) → P n → m < n + 1 → P m
at_or_below P n m true e below here h = subst P (sym (equal m n e)) here
at_or_below P n m false e below here h = below m (less m n e h)

pub below_suc : (P : ℕ → Type 0) (n : ℕ) → ((k : ℕ) → k < n → P k) → P n → (m : ℕ) → m < n + 1 → P m
below_suc P n below here m h = at_or_below P n m (nat_eq m n) refl below here h
