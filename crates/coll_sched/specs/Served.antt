-- A family that serves a signature, and what its members hold in the end
use Rattle.std.specs.Prelude.{◌≡◌, ℕ, zero, suc, ◌<◌, ◌≢◌, true, List, [], ◌∷◌, length, Some, None}
use Rattle.coll_kinds.specs.declared.signature.Signature.{Signature}
use Rattle.coll_kinds.specs.Common.{given_len, got_len, needs, AreBytes}
use Rattle.coll_ops.specs.Values.{row_of, value}
use Rattle.coll_ops.specs.Contributions.{AreGiven}
use Rattle.coll_sched.specs.Regions.{read_of}
use Rattle.coll_sched.specs.Families.{Family, result_at, Heard, IsLawful}
use Rattle.coll_sched.specs.Worlds.{Progress, World, Reached, filled}

-- the c rows from k on, as a list
abbrev pub listing : (ℕ → List ℕ) → ℕ → ℕ → List (List ℕ)
listing xs k zero = []
listing xs k (suc c) = xs k ∷ listing xs (suc k) c

-- the family is lawful, takes and gives the signature's lengths, ends in its value, and hears all that it needs
pub record Serves (sig : Signature) (n : ℕ) (f : Family) : Type 0 where
  pub lawful : IsLawful n f
  pub takes_given : (r : ℕ) → r < n → (f r).input.len ≡ given_len sig n r
  pub gives_got : (r : ℕ) → r < n → (f r).output.len ≡ got_len sig n r
  pub has_value : (given : List (List ℕ))
      → AreGiven sig n given
      → ((r : ℕ) → r < n → AreBytes (row_of given r))
      → (r : ℕ)
      → r < n
      → result_at f (row_of given) r ≡ value sig given r
  pub hears : (r p : ℕ) → r < n → needs sig n r p ≡ true → Heard f (length (f r).rounds) r p

-- what a member of such a family has when it has done all its actions
pub record HoldsValue (sig : Signature) (n : ℕ) (f : Family) (w : World) (r : ℕ) (p : Progress) : Type 0 where
  pub value_is : read_of p.buf (f r).output ≡ value sig (listing (filled f w.given) 0 n) r
  pub needed : (s : ℕ) → needs sig n r s ≡ true → w.given s ≢ None

-- a member that has done all its actions holds the collective's value, and all whom it needs have joined
abbrev pub HeldValue : Type 0
HeldValue = (sig : Signature) (n : ℕ) (f : Family)
    → Serves sig n f
    → (w : World)
    → Reached n f w
    → (r : ℕ) (p : Progress)
    → w.progress r ≡ Some p
    → p.round ≡ length (f r).rounds
    → HoldsValue sig n f w r p
