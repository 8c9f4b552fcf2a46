-- The condition that the engine keeps: each collective runs on its track, and each slot lies on the right list.
use Rattle.std.specs.Prelude.{◌≡◌, ◌≢◌, ◌<◌, ◌≤◌, ◌⊎◌, ℕ, true, false, length, slice_get, Option, Some, None}
use Rattle.coll_kinds.specs.declared.datatype.Datatype.{Datatype}
use Rattle.coll_kinds.specs.declared.kind.Mode.TheVariants.{Persistent}
use Rattle.coll_kinds.specs.declared.operation.Op.{Op}
use Rattle.coll_kinds.specs.declared.signature.Signature.{Signature}
use Rattle.coll_sched.specs.declared.region.Region.{Region}
use Rattle.coll_sched.specs.declared.action.Action.{Action}
use Rattle.coll_sched.specs.declared.action.Action.TheVariants.{Send, Copy, Combine, Recv}
use Rattle.coll_sched.specs.Common.{actions_at, Tracks, Progress}
use Rattle.coll_plans.specs.Plans.{IsPlanned, family}
use Rattle.coll_arena.specs.declared.list_name.ListName.TheVariants.{Free, Worn, Ready, Running, Idle, Queue, Done}
use Rattle.coll_arena.specs.ListNames.{number_of}
use Rattle.coll_machine.specs.Settings.{size}
use Rattle.coll_machine.specs.declared.key.Key.{Key}
use Rattle.coll_refinement.specs.Requests.{Live, at, key, progress}
use Rattle.coll_refinement.specs.Tables.{Mail, Tables, Paths, family_at, world}

-- ---- all but the lists

-- the slot's request works on that collective for that member
pub record Owned (request : ℕ → Option Live) (k : Key) (m : ℕ) (slot : ℕ) : Type 0 where
  pub req : Live
  pub is : request slot ≡ Some req
  pub active : req.active ≡ true
  pub key_is : key req ≡ k
  pub member_is : req.member ≡ m

pub record Base (v : Tables) (paths : Paths) : Type 0 where
  -- each collective is on its track, whether somebody has joined it or not
  pub tracks : (k : Key) → Tracks (size v.setting k.comm) (family_at v k) (world v paths k)
  -- an active request is on its way in its collective, and its slot is noted there
  pub active : (i : ℕ) (q : Live) → v.request i ≡ Some q → q.active ≡ true
      → (paths (key q) q.member ≡ Some (progress q)) × (v.seats (key q) q.member ≡ Some i)
  -- a slot that is noted has such a request, and whoever is on the way has a slot
  pub owner : (k : Key) (m i : ℕ) → v.seats k m ≡ Some i → Owned v.request k m i
  pub on_way : (k : Key) (m : ℕ) (p : Progress) → paths k m ≡ Some p → v.seats k m ≢ None
  -- of one member at one place of a communicator there is at most one live request
  pub alone : (i j : ℕ) (q r : Live) → v.request i ≡ Some q → v.request j ≡ Some r
      → q.comm ≡ r.comm → q.place ≡ r.place → q.member ≡ r.member → i ≡ j
  -- a live request knows its communicator's size, and is of one of its members
  pub sized : (i : ℕ) (q : Live) → v.request i ≡ Some q → q.members ≡ size v.setting q.comm
  pub member_in : (i : ℕ) (q : Live) → v.request i ≡ Some q → q.member < size v.setting q.comm
  -- its signature is the one that its member's posting list has at its place
  pub own : (i : ℕ) (q : Live) → v.request i ≡ Some q → slice_get (v.posts q.comm q.member) q.place ≡ Some q.sig
  -- the signature at a place is that of each list which has the place, and of one at least;
  pub agreed : (c m p : ℕ) (s : Signature) → slice_get (v.posts c m) p ≡ Some s → v.signed c p ≡ Some s
  pub signs : (c p : ℕ) (s : Signature) → v.signed c p ≡ Some s
      → (m : ℕ) × (m < size v.setting c) × (slice_get (v.posts c m) p ≡ Some s)
  -- its family serves it, in few actions
  pub planned : (c p : ℕ) (s : Signature) → v.signed c p ≡ Some s
      → IsPlanned s (size v.setting c) (family s (size v.setting c))
  -- who gave to a collective has posted it,
  pub posted : (k : Key) (m : ℕ) → v.given k m ≢ None → k.place < length (v.posts k.comm m)
  -- and a live request has given to no start but those that were
  pub gave : (i : ℕ) (q : Live) → v.request i ≡ Some q → (s : ℕ) → v.given (at q s) q.member ≢ None → s < q.starts

-- ---- the lists

-- the next action of a request among n members
abbrev pub next : ℕ → Live → Option Action
next n q = slice_get (actions_at (family q.sig n) q.round q.member) q.index

-- it can be done at once: a Recv's message has come
abbrev pub Doable : Mail → Live → Action → Type 0
Doable mail q (Send to from) = Unit {0}
Doable mail q (Copy from into) = Unit {0}
Doable mail q (Combine op ty a b into) = Unit {0}
Doable mail q (Recv of into) = mail of q.member q.round ≢ None

-- a request among n members, with the messages of its collective, lies on the right list
pub data Stands (n : ℕ) (mail : Mail) (l : ℕ) (q : Live) : Type 0 where
  -- its next action can be done,
  ready : (a : Action) → q.active ≡ true → l ≡ number_of Ready
      → next n q ≡ Some a → Doable mail q a → Stands n mail l q
  -- is a Combine that was handed out,
  running : (op : Op) (ty : Datatype) (a b into : Region) → q.active ≡ true → l ≡ number_of Running
      → next n q ≡ Some (Combine op ty a b into) → Stands n mail l q
  -- waits for its message,
  queued : (of : ℕ) (into : Region) → q.active ≡ true → l ≡ number_of (Queue q.comm)
      → next n q ≡ Some (Recv of into) → mail of q.member q.round ≡ None → Stands n mail l q
  -- or all are done;
  done : q.active ≡ true → l ≡ number_of (Done q.comm)
      → q.round ≡ length (family q.sig n q.member).rounds → Stands n mail l q
  -- one that isn't active is persistent
  idle : q.active ≡ false → l ≡ number_of (Idle q.comm) → q.sig.mode ≡ Persistent → Stands n mail l q

-- it still lies where it waited, and its message has come
pub record Called (n : ℕ) (mail : Mail) (l : ℕ) (q : Live) : Type 0 where
  pub of : ℕ
  pub into : Region
  pub active : q.active ≡ true
  pub on_queue : l ≡ number_of (Queue q.comm)
  pub next_is : next n q ≡ Some (Recv of into)
  pub came : mail of q.member q.round ≢ None

-- a slot without a request can be given to one more, or had its last generation
abbrev pub Lies : ℕ → ℕ → ℕ → Type 0
Lies wear generation l =
    ((l ≡ number_of Free) × (generation < wear)) ⊎ ((l ≡ number_of Worn) × (generation ≡ wear))

pub record Sound (v : Tables) (paths : Paths) : Type 0 where
  pub base : Base v paths
  pub stands : (i : ℕ) (q : Live) → v.request i ≡ Some q
      → Stands (size v.setting q.comm) (v.mail (key q)) (v.home i) q
  pub lies : (i : ℕ) → i < v.setting.slots → v.request i ≡ None → Lies v.setting.wear (v.generation i) (v.home i)
  -- a live request has one of the engine's slots, in one of its generations
  pub numbered : (i : ℕ) (q : Live) → v.request i ≡ Some q
      → (i < v.setting.slots) × (v.generation i ≤ v.setting.wear)

-- the condition
pub record IsSound (v : Tables) : Type 0 where
  pub paths : Paths
  pub sound : Sound v paths
