-- What each call of the engine has made sure of before it changes its tables, and where it puts the slot.
use Rattle.std.specs.Prelude.{◌≡◌, ◌≢◌, ◌<◌, ◌⊎◌, ℕ, suc, false, List, length, Some, None}
use Rattle.coll_kinds.specs.declared.kind.Mode.{Mode}
use Rattle.coll_kinds.specs.declared.kind.Mode.TheVariants.{Once, Persistent}
use Rattle.coll_kinds.specs.declared.signature.Signature.{Signature}
use Rattle.coll_kinds.specs.declared.ticket.Ticket.{Ticket}
use Rattle.coll_kinds.specs.Common.{AreBytes, member_of, given_len}
use Rattle.coll_sched.specs.declared.action.Action.{Action}
use Rattle.coll_sched.specs.Common.{laid_in, Over, read_of, Progress}
use Rattle.coll_plans.specs.Plans.{IsPlanned, family}
use Rattle.coll_arena.specs.declared.list_name.ListName.TheVariants.{Ready, Running, Idle, Done}
use Rattle.coll_arena.specs.ListNames.{number_of}
use Rattle.coll_machine.specs.Common.{group, size, new_request, Planned, Retire, refusal, AllHaveLeft}
use Rattle.coll_machine.specs.declared.key.Key.{Key}
use Rattle.coll_refinement.specs.Requests.{Live, at, key, begun, as_request}
use Rattle.coll_refinement.specs.Tables.{Tables, state}
use Rattle.coll_refinement.specs.Sound.{next, Stands, Called, Lies}

-- the other slots stay on their lists
abbrev pub Away : Tables → ℕ → (ℕ → ℕ) → Type 0
Away v i home = (j : ℕ) → j ≢ i → home j ≡ v.home j

-- the ticket of a slot's request, and that of the next one
abbrev pub ticket : Tables → ℕ → Ticket
ticket v i = record { slot = i; generation = v.generation i }

abbrev pub new_ticket : Tables → ℕ → Ticket
new_ticket v i = record { slot = i; generation = suc (v.generation i) }

-- ---- posts, initialisations and starts

-- a request that may be made in the slot
pub record Posting (v : Tables) (i : ℕ) (q : Live) : Type 0 where
  pub spare : v.request i ≡ None
  pub low : i < v.setting.slots
  pub unworn : v.generation i < v.setting.wear
  pub inactive : q.active ≡ false
  pub unstarted : q.starts ≡ 0
  pub members_is : q.members ≡ size v.setting q.comm
  pub member_in : q.member < size v.setting q.comm
  pub place_is : q.place ≡ length (v.posts q.comm q.member)
  pub judged : (s : Signature) → v.signed q.comm q.place ≡ Some s → s ≡ q.sig
  pub planned : IsPlanned q.sig (size v.setting q.comm) (family q.sig (size v.setting q.comm))

-- a new request of the rank in the slot
pub record New (v : Tables) (i : ℕ) (q : Live) (rank : ℕ) (mode : Mode) (plan : Planned) : Type 0 where
  pub posting : Posting v i q
  pub member_is : member_of rank (group v.setting q.comm) ≡ Some q.member
  pub sig_is : q.sig ≡ plan.sig
  pub is : as_request q ≡ new_request rank q.comm q.member q.place mode

-- bytes that the slot's request may be started with, and the first point of its schedule
pub record Joining (v : Tables) (i : ℕ) (q : Live) (bytes : List ℕ) (p : Progress) : Type 0 where
  pub here : v.request i ≡ Some q
  pub inactive : q.active ≡ false
  pub long : length bytes ≡ given_len q.sig (size v.setting q.comm) q.member
  pub are : AreBytes bytes
  pub start : p ≡ record { round = 0; index = 0; buf = laid_in (family q.sig (size v.setting q.comm) q.member) bytes }

-- the bytes enter, and the request lies where its first action puts it
pub record Starting (v : Tables) (i : ℕ) (q : Live) (bytes : List ℕ) (o : Progress) (home : ℕ → ℕ) : Type 0 where
  pub from : Progress
  pub joining : Joining v i q bytes from
  pub buf : o.buf ≡ from.buf
  pub over : Over (family q.sig (size v.setting q.comm) q.member) from.round from.index o.round o.index
  pub away : Away v i home
  pub stands : Stands (size v.setting q.comm) (v.mail (at q q.starts)) (home i) (begun q o)

-- ---- completions

-- every member has given to the collective and none works on it
abbrev pub IsLast : Tables → Key → Type 0
IsLast v k = AllHaveLeft (size v.setting k.comm) (v.given k) (λ m. v.seats k m ≡ None)

-- where a completion leaves the slot
abbrev pub LeftAt : Mode → Tables → ℕ → Live → ℕ → Type 0
LeftAt Once v i q l = Lies v.setting.wear (v.generation i) l
LeftAt Persistent v i q l = l ≡ number_of (Idle q.comm)

pub record Retiring (v : Tables) (i : ℕ) (q : Live) (rank : ℕ) (bytes : List ℕ) (home : ℕ → ℕ) : Type 0 where
  pub here : v.request i ≡ Some q
  pub list : v.home i ≡ number_of (Done q.comm)
  pub accepted : refusal v.setting (state v) (Retire rank (ticket v i)) ≡ None
  pub bytes_is : bytes ≡ read_of q.buf (family q.sig (size v.setting q.comm) q.member).output
  pub away : Away v i home
  pub left : LeftAt q.sig.mode v i q (home i)

-- ---- actions

-- the slot's request is on Ready or Running, and goes one action on, and over the ends of rounds after it
pub record Acting (v : Tables) (i : ℕ) (q : Live) (a : Action) (o : Progress) (home : ℕ → ℕ) : Type 0 where
  pub here : v.request i ≡ Some q
  pub list : (v.home i ≡ number_of Ready) ⊎ (v.home i ≡ number_of Running)
  pub next_is : next (size v.setting q.comm) q ≡ Some a
  pub over : Over (family q.sig (size v.setting q.comm) q.member) q.round (suc q.index) o.round o.index
  pub away : Away v i home

-- the request of that member waits for this message
pub record Waking (w : Tables) (k : Key) (to : ℕ) (j : ℕ) : Type 0 where
  pub req : Live
  pub seat : w.seats k to ≡ Some j
  pub is : w.request j ≡ Some req
  pub called : Called (size w.setting req.comm) (w.mail (key req)) (w.home j) req
