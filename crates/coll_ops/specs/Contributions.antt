-- What the members gave, as the code holds it: a vector of bytes for each member, in member order.
use Rattle.std.specs.Prelude.{◌≡◌, ℕ, ◌<◌, ◌≤◌, ◌+◌, List, length, map, Vec}
use Rattle.std.specs.Global.{Global}
use Rattle.coll_kinds.specs.declared.signature.Signature.{Signature}
use Rattle.coll_kinds.specs.Lengths.{given_len}
use Rattle.coll_ops.specs.Values.{row_of}

-- the rows of bytes
abbrev pub rows_of : List (Vec ℕ Global) → List (List ℕ)
rows_of given = map (λ row. row.items) given

-- there is a row for each of the n members, of the length that the signature gives it
pub record AreGiven (sig : Signature) (n : ℕ) (rows : List (List ℕ)) : Type 0 where
  pub each : length rows ≡ n
  pub long : (i : ℕ) → i < n → length (row_of rows i) ≡ given_len sig n i

-- each row has that many bytes from there on
abbrev pub HaveParts : ℕ → ℕ → List (List ℕ) → Type 0
HaveParts at len rows = (i : ℕ) → i < length rows → at + len ≤ length (row_of rows i)
