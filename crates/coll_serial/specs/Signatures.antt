-- What the posting lists have at a place.
use Rattle.std.specs.Prelude.{ℕ, Option, option_map}
use Rattle.coll_kinds.specs.declared.signature.Signature.{Signature}
use Rattle.coll_machine.specs.Common.{first_there, Setting, size, State}

-- the signature of the lowest member that has the place, which a Mismatch names
abbrev pub signature_at : Setting → State → ℕ → ℕ → Option Signature
signature_at g s comm place = option_map (λ first. first.1) (first_there (s.posts comm) place 0 (size g comm))
