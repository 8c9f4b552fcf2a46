-- The posting lists of one communicator's members.
use Rattle.std.specs.Prelude.{ℕ, List, [], length, slice_get, unwrap_or, Option, option_map}
use Rattle.coll_kinds.specs.declared.signature.Signature.{Signature}
use Rattle.coll_machine.specs.Refusals.{first_there}

-- the ranks of the members, the signatures that each has posted, in order, and how many signatures memory stands for
pub record Lists : Type 0 where
  pub group : List ℕ
  pub lists : List (List Signature)
  pub room : ℕ

-- the posting list of a member
abbrev pub posts_in : Lists → ℕ → List Signature
posts_in l member = unwrap_or (slice_get l.lists member) []

-- the signature at a place
abbrev pub signed_in : Lists → ℕ → Option Signature
signed_in l place = option_map (λ first. first.1) (first_there (posts_in l) place 0 (length l.group))
