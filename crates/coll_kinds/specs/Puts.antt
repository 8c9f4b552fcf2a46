-- A function with another value at one number.
use Rattle.std.specs.Prelude.{ℕ, ◌==◌, cond}

abbrev pub put : {X : Type 0} → (ℕ → X) → ℕ → X → ℕ → X
put f k x i = cond (i == k) x (f i)
