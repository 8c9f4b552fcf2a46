-- All instances that stand, as look-ups by key.
use Rattle.std.specs.Prelude.{◌≡◌, ℕ, Bool, false, List, length, unwrap_or, Option, Some, None, if◌then◌else◌}
use Rattle.std.specs.Map.{lookup}
use Rattle.coll_kinds.specs.Puts.{put}
use Rattle.coll_machine.specs.declared.key.Key.{Key}
use Rattle.coll_machine.specs.Common.{put_in, put_key, same_key, AllHaveLeft}
use Rattle.coll_sched.specs.Worlds.{put_mail}
use Rattle.coll_match.specs.Held.{HasJoined, Held, given_in, mail_in, seat_in}

-- an entry is that instance's
abbrev pub is_of : Key → Option (Key × Held) → Bool
is_of k None = false
is_of k (Some entry) = same_key k entry.0

-- what stands of an instance
abbrev pub standing : List (Key × Held) → Key → Option Held
standing t k = lookup (same_key k) t

abbrev pub members_of : Option Held → Option ℕ
members_of None = None
members_of (Some h) = Some (length h.shares)

abbrev pub given_of : Option Held → ℕ → Option (List ℕ)
given_of None member = None
given_of (Some h) member = given_in h member

abbrev pub seats_of : Option Held → ℕ → Option ℕ
seats_of None member = None
seats_of (Some h) member = seat_in h member

abbrev pub mail_of : Option Held → ℕ → ℕ → ℕ → Option (List ℕ)
mail_of None from to round = None
mail_of (Some h) from to round = mail_in h from to round

-- the bytes are what all members gave to an instance that stands, joined
pub record IsJoined (t : List (Key × Held)) (k : Key) (bytes : List ℕ) : Type 0 where
  pub held : Held
  pub stands : standing t k ≡ Some held
  pub joined : HasJoined held bytes

-- how many members have room to give to an instance, where it stands
abbrev pub members : List (Key × Held) → Key → Option ℕ
members t k = members_of (standing t k)

abbrev pub size : List (Key × Held) → Key → ℕ
size t k = unwrap_or (members t k) 0

-- every instance that stands has n members
abbrev pub HaveSize : List (Key × Held) → ℕ → Type 0
HaveSize t n = (k : Key) → unwrap_or (members t k) n ≡ n

-- what a member gave to an instance
abbrev pub given : List (Key × Held) → Key → ℕ → Option (List ℕ)
given t k = given_of (standing t k)

-- the slot of a member's active request
abbrev pub seats : List (Key × Held) → Key → ℕ → Option ℕ
seats t k = seats_of (standing t k)

-- the message of a sender to a receiver for a round
abbrev pub mail : List (Key × Held) → Key → ℕ → ℕ → ℕ → Option (List ℕ)
mail t k = mail_of (standing t k)

-- ---- what a call makes of them

-- all that stands
pub record LookUps : Type 0 where
  pub members : Key → Option ℕ
  pub given : Key → ℕ → Option (List ℕ)
  pub seats : Key → ℕ → Option ℕ
  pub mail : Key → ℕ → ℕ → ℕ → Option (List ℕ)

abbrev pub look_ups : List (Key × Held) → LookUps
look_ups t = record { members = members t; given = given t; seats = seats t; mail = mail t }

abbrev pub nothing : LookUps
nothing = record { members = λ k. None; given = λ k member. None; seats = λ k member. None; mail = λ k from to round. None }

-- an instance has room for n members, unless it stood already
abbrev pub roomed : LookUps → Key → ℕ → LookUps
roomed s k n = record s { members = put_key s.members k (Some (unwrap_or (s.members k) n)) }

-- a member has given bytes
abbrev pub joined : LookUps → Key → ℕ → List ℕ → LookUps
joined s k member bytes = record s { given = put_in s.given k member (Some bytes) }

-- a member's active request has a slot, or is none any more
abbrev pub seated : LookUps → Key → ℕ → Option ℕ → LookUps
seated s k member slot = record s { seats = put_in s.seats k member slot }

-- one message more, or one less
abbrev pub mailed : LookUps → Key → ℕ → ℕ → ℕ → Option (List ℕ) → LookUps
mailed s k from to round message = record s { mail = put_key s.mail k (put_mail (s.mail k) from to round message) }

-- nothing is kept of an instance
abbrev pub dissolved : LookUps → Key → LookUps
dissolved s k = record {
  members = put_key s.members k None;
  given = put_key s.given k (λ member. None);
  seats = put_key s.seats k (λ member. None);
  mail = put_key s.mail k (λ from to round. None);
}

-- a member has left, and nothing is kept of the instance where it was the last
abbrev pub left : LookUps → Key → ℕ → Bool → LookUps
left s k member last = record {
  members = put_key s.members k (if last then None else s.members k);
  given = put_key s.given k (if last then (λ member. None) else s.given k);
  seats = put_in s.seats k member None;
  mail = put_key s.mail k (if last then (λ from to round. None) else s.mail k);
}

-- once this member has left, every member has given to the instance and has no active request
abbrev pub IsLast : List (Key × Held) → Key → ℕ → Type 0
IsLast t k leaver = AllHaveLeft (size t k) (given t k) (λ member. put (seats t k) leaver None member ≡ None)
