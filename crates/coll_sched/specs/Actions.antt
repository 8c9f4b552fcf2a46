-- Actions on one member's buffer, and when two of them may stand in one round
use Rattle.std.specs.Prelude.{◌≡◌, ◌≢◌, ℕ, ◌%◌, ◌<◌, ◌≤◌, List, [], ◌∷◌, IsTrue}
use Rattle.std.specs.List.{AllByRecursion}
use Rattle.coll_kinds.specs.Common.{width, allowed}
use Rattle.coll_ops.specs.Combinations.{combined}
use Rattle.coll_sched.specs.declared.region.Region.{Region}
use Rattle.coll_sched.specs.declared.action.Action.{Action}
use Rattle.coll_sched.specs.declared.action.Action.TheVariants.{Send, Copy, Combine, Recv}
use Rattle.coll_sched.specs.Regions.{Inside, Apart, read_of, written}

-- what the action reads of the member's own buffer
abbrev pub reads : Action → List Region
reads (Send to from) = from ∷ []
reads (Copy from into) = from ∷ []
reads (Combine op ty left right into) = left ∷ right ∷ []
reads (Recv of into) = []

-- what it writes there
abbrev pub writes : Action → List Region
writes (Send to from) = []
writes (Copy from into) = into ∷ []
writes (Combine op ty left right into) = into ∷ []
writes (Recv of into) = into ∷ []

-- an action of a schedule whose buffer has this size: its own regions may overlap, since it reads before it writes
abbrev pub Fits : ℕ → Action → Type 0
Fits size (Send to from) = Inside size from
Fits size (Copy from into) = Inside size from × Inside size into × (from.len ≡ into.len)
Fits size (Combine op ty left right into) = Inside size left
    × Inside size right
    × Inside size into
    × (left.len ≡ into.len)
    × (right.len ≡ into.len)
    × IsTrue (allowed op ty)
    × (into.len % width ty ≡ 0)
Fits size (Recv of into) = Inside size into

-- where the action's kind stands in a round: Send, Copy, Combine, Recv
abbrev pub order : Action → ℕ
order (Send to from) = 0
order (Copy from into) = 1
order (Combine op ty left right into) = 2
order (Recv of into) = 3

-- not two Sends to one member, nor two Recvs of one
abbrev pub OtherPeer : Action → Action → Type 0
OtherPeer (Send p g) (Send q h) = p ≢ q
OtherPeer (Recv p g) (Recv q h) = p ≢ q
OtherPeer _ _ = Unit {0}

-- no region of the first list shares a byte with one of the second
abbrev pub AllApart : List Region → List Region → Type 0
AllApart gs hs = AllByRecursion (λ g. AllByRecursion (λ h. Apart g h) hs) gs

-- an action, and a later one of its round: in order, with other peers,
-- and neither writes what the other reads or writes
pub record Follows (a b : Action) : Type 0 where
  pub in_order : order a ≤ order b
  pub other_peer : OtherPeer a b
  pub read_later : AllApart (writes a) (reads b)
  pub read_before : AllApart (writes b) (reads a)
  pub both_written : AllApart (writes a) (writes b)

-- each two actions of a round
abbrev pub EachFollows : List Action → Type 0
EachFollows [] = Unit {0}
EachFollows (a ∷ rest) = AllByRecursion (Follows a) rest × EachFollows rest

-- the member's buffer after one action: `msgs` are the messages to the member, `mine` is the buffer that is read
abbrev pub wrote : (ℕ → List ℕ) → List ℕ → Action → List ℕ → List ℕ
wrote msgs mine (Send to from) buf = buf
wrote msgs mine (Copy from into) buf = written buf into (read_of mine from)
wrote msgs mine (Combine op ty left right into) buf =
    written buf into (combined op ty (read_of mine left) (read_of mine right))
wrote msgs mine (Recv of into) buf = written buf into (msgs of)

-- the buffer after these actions, one after another
abbrev pub wrote_all : (ℕ → List ℕ) → List ℕ → List Action → List ℕ → List ℕ
wrote_all msgs mine [] buf = buf
wrote_all msgs mine (a ∷ rest) buf = wrote_all msgs mine rest (wrote msgs mine a buf)

-- a Copy or a Combine: it concerns the member's own buffer alone
abbrev pub IsLocal : Action → Type 0
IsLocal (Send to from) = ⊥
IsLocal (Copy from into) = Unit {0}
IsLocal (Combine op ty left right into) = Unit {0}
IsLocal (Recv of into) = ⊥

-- the action is a Combine
abbrev pub IsCombine : Action → Type 0
IsCombine (Send to from) = ⊥
IsCombine (Copy from into) = ⊥
IsCombine (Combine op ty left right into) = Unit {0}
IsCombine (Recv of into) = ⊥

-- the action is a Send
abbrev pub IsSend : Action → Type 0
IsSend (Send to from) = Unit {0}
IsSend (Copy from into) = ⊥
IsSend (Combine op ty left right into) = ⊥
IsSend (Recv of into) = ⊥

-- the message of a Send
abbrev pub message_of : Action → List ℕ → List ℕ
message_of (Send to from) buf = read_of buf from
message_of (Copy from into) buf = []
message_of (Combine op ty left right into) buf = []
message_of (Recv of into) buf = []

-- a Recv of a message of that many bytes
abbrev pub Takes : Action → ℕ → Type 0
Takes (Send to from) len = ⊥
Takes (Copy from into) len = ⊥
Takes (Combine op ty left right into) len = ⊥
Takes (Recv of into) len = len ≡ into.len

-- a Send or a Recv whose peer is one of n members
abbrev pub IsAmong : ℕ → Action → Type 0
IsAmong n (Send to from) = to < n
IsAmong n (Copy from into) = Unit {0}
IsAmong n (Combine op ty left right into) = Unit {0}
IsAmong n (Recv of into) = of < n
