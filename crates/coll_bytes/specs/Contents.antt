-- What contracts see of a buffer
use Rattle.std.specs.Prelude.{ℕ, List}

-- its bytes, and how many writes need no memory
pub record Contents : Type 0 where
  pub bytes : List ℕ
  pub room : ℕ
