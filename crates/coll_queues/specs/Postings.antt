-- The posting lists of all communicators.
use Rattle.std.specs.Prelude.{ℕ, ◌<◌, List, [], length, map, slice_get, unwrap_or, Option, option_map}
use Rattle.coll_kinds.specs.declared.signature.Signature.{Signature}
use Rattle.coll_kinds.specs.Groups as membership
use Rattle.coll_machine.specs.Common.{first_there, group_in}
use Rattle.coll_queues.specs.Lists.{Lists, posts_in}

-- the lists of each communicator's members, and how long a list may get
pub record Postings : Type 0 where
  pub comms : List Lists
  pub places : ℕ

-- the ranks of each communicator, in member order
abbrev pub groups_of : Postings → List (List ℕ)
groups_of q = map (λ l. l.group) q.comms

abbrev pub size : Postings → ℕ → ℕ
size q comm = length (group_in (groups_of q) comm)

-- a rank's member number
abbrev pub member_of : Postings → ℕ → ℕ → Option ℕ
member_of q comm rank = membership.member_of rank (group_in (groups_of q) comm)

-- the same, 0 where the rank is no member
abbrev pub number_of : Postings → ℕ → ℕ → ℕ
number_of q comm rank = unwrap_or (member_of q comm rank) 0

abbrev pub no_lists : Lists
no_lists = record { group = []; lists = []; room = 0 }

abbrev pub lists_at : List Lists → ℕ → Lists
lists_at comms comm = unwrap_or (slice_get comms comm) no_lists

-- the posting list of a communicator's member: none where there is no such member
abbrev pub posts : Postings → ℕ → ℕ → List Signature
posts q comm = posts_in (lists_at q.comms comm)

-- the signature at a place of a communicator: that of the first member whose list has the place
abbrev pub signed : Postings → ℕ → ℕ → Option Signature
signed q comm place = option_map (λ first. first.1) (first_there (posts q comm) place 0 (size q comm))

-- the next place of a rank
abbrev pub place_of : Postings → ℕ → ℕ → ℕ
place_of q comm rank = length (posts q comm (number_of q comm rank))

-- memory stands for one more signature at the end of a rank's list
abbrev pub HasRoom : Postings → ℕ → ℕ → Type 0
HasRoom q comm rank = place_of q comm rank < (lists_at q.comms comm).room
