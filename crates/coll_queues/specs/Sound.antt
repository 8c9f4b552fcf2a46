-- What holds of all posting lists.
use Rattle.std.specs.Prelude.{◌≡◌, ℕ, ◌≤◌, List, [], length, slice_get, Some}
use Rattle.coll_kinds.specs.declared.signature.Signature.{Signature}
use Rattle.coll_queues.specs.Lists.{Lists, posts_in, signed_in}
use Rattle.coll_queues.specs.Postings.{Postings, lists_at, posts, signed, size}

-- of one communicator
pub record IsAgreed (l : Lists) : Type 0 where
  pub few : length l.group ≤ 64
  pub outside : (member : ℕ) → length l.group ≤ member → posts_in l member ≡ []
  pub signed : (member place : ℕ) (sig : Signature)
      → slice_get (posts_in l member) place ≡ Some sig
      → signed_in l place ≡ Some sig

-- of each communicator
abbrev pub AreAgreed : List Lists → Type 0
AreAgreed comms = (comm : ℕ) → IsAgreed (lists_at comms comm)

-- Any two lists of one communicator are equal at each place that both have.
abbrev pub DoAgree : Postings → Type 0
DoAgree q = (comm member other place : ℕ) (one two : Signature) → slice_get (posts q comm member) place ≡ Some one
    → slice_get (posts q comm other) place ≡ Some two → one ≡ two

pub record IsSound (q : Postings) : Type 0 where
  pub agree : DoAgree q
  -- a place's signature is that of every list which has the place
  pub signs : (comm member place : ℕ) (sig : Signature)
      → slice_get (posts q comm member) place ≡ Some sig
      → signed q comm place ≡ Some sig
  -- a communicator has at most 64 members, and only they have posted
  pub few : (comm : ℕ) → size q comm ≤ 64
  pub outside : (comm member : ℕ) → size q comm ≤ member → posts q comm member ≡ []
