-- What each call of an engine does to its arena, posting lists and instances, from before the call (a, q, m) to after it.
use Rattle.std.specs.Prelude.{◌≡◌, ◌⊎◌, ◌+◌, ◌↔◌, ℕ, suc, Bool, true, IsTrue, List, [], ◌∷◌, ◌++◌, Some, None, unwrap_or, if◌then◌else◌}
use Rattle.coll_kinds.specs.declared.datatype.Datatype.{Datatype}
use Rattle.coll_kinds.specs.declared.operation.Op.{Op}
use Rattle.coll_kinds.specs.declared.ticket.Ticket.{Ticket}
use Rattle.coll_kinds.specs.Common.{AreBytes, lent}
use Rattle.coll_sched.specs.declared.action.Action.{Action}
use Rattle.coll_sched.specs.declared.action.Action.TheVariants.{Combine}
use Rattle.coll_sched.specs.declared.region.Region.{Region}
use Rattle.coll_sched.specs.Common.{laid_in, Over, read_of, Progress}
use Rattle.coll_plans.specs.Plans.{family}
use Rattle.coll_lists.specs.Layouts.{sequence}
use Rattle.coll_lists.specs.Neighbours.{first_in}
use Rattle.coll_arena.specs.declared.list_name.ListName.TheVariants.{Free, Ready, Running, Idle, Done}
use Rattle.coll_arena.specs.ListNames.{number_of}
use Rattle.coll_arena.specs.Slots.{Slots, generation_of, home, weight_of}
use Rattle.coll_queues.specs.Postings.{Postings, groups_of, number_of as number_in, place_of, posts, signed}
use Rattle.coll_machine.specs.declared.key.Key.{Key}
use Rattle.coll_machine.specs.Common.{put2, put_in, put_key, Setting, State, Planned, Post, Init, Start, Retire, Free, refusal}
use Rattle.coll_match.specs.Instances.{given, mail, members, seats, IsLast}
use Rattle.coll_refinement.specs.Requests.{Live, at, key, advanced, begun}
use Rattle.coll_refinement.specs.Sound.{next, Stands}
use Rattle.coll_refinement.specs.Shown.{Instances}
use Rattle.coll_refinement.specs.OneSlots.{OneSlot}
use Rattle.coll_refinement.specs.Engines.{IsFound, IsJoined, Rests, given_up}

-- the next slot of Free, and its next generation
pub record IsFree {R : Type 0} (a : Slots R) (t : Ticket) : Type 0 where
  pub first : first_in (sequence a.lists (number_of Free)) ≡ Some t.slot
  pub next : t.generation ≡ generation_of a t.slot + 1

-- a signature enters the rank's posting list
pub record IsOffered (q r : Postings) (comm rank : ℕ) (plan : Planned) : Type 0 where
  pub groups : groups_of r ≡ groups_of q
  pub places : r.places ≡ q.places
  pub posted : posts r
      ≡ put2 (posts q) comm (number_in q comm rank) (posts q comm (number_in q comm rank) ++ plan.sig ∷ [])
  pub signs : signed r ≡ put2 (signed q) comm (place_of q comm rank) (Some plan.sig)

-- a member leaves an instance, which goes where it is the last
pub record IsLeft (m n : Instances) (k : Key) (member : ℕ) (last : Bool) : Type 0 where
  pub last_is : IsTrue last ↔ IsLast m k member
  pub members : members n ≡ put_key (members m) k (if last then None else members m k)
  pub given : given n ≡ put_key (given m) k (if last then (λ _. None) else given m k)
  pub seats : seats n ≡ put_in (seats m) k member None
  pub mail : mail n ≡ put_key (mail m) k (if last then (λ _ _ _. None) else mail m k)

-- the instances differ in messages alone
pub record KeepsContributions (m n : Instances) : Type 0 where
  pub members : members n ≡ members m
  pub given : given n ≡ given m
  pub seats : seats n ≡ seats m

-- room for one more signature, and for an instance of that many members
pub record HasMade (q r : Postings) (m n : Instances) (k : Key) (size : ℕ) : Type 0 where
  pub groups : groups_of r ≡ groups_of q
  pub places : r.places ≡ q.places
  pub posted : posts r ≡ posts q
  pub members : (members n ≡ members m) ⊎ (members n ≡ put_key (members m) k (Some (unwrap_or (members m k) size)))
  pub given : given n ≡ given m
  pub seats : seats n ≡ seats m
  pub mail : mail n ≡ mail m

-- the request that a post or an initialisation makes, as it stands with that many starts
abbrev pub made : ℕ → ℕ → Planned → ℕ → ℕ → Progress → Live
made rank comm plan place starts o = record {
  rank = rank;
  comm = comm;
  members = plan.n;
  member = plan.member;
  place = place;
  sig = plan.sig;
  starts = starts;
  active = true;
  round = o.round;
  index = o.index;
  buf = o.buf;
}

-- `shown` calls each request active; whether it is, its list tells
module _ {R : Type 0} (shown : R → Live) (g : Setting) where
  -- an initialisation
  pub record Initialises (s : State) (a b : Slots R) (q r : Postings) (t : Ticket) (rank comm : ℕ)
      (plan : Planned) (y : R) : Type 0 where
    pub accepted : refusal g s (Init rank comm plan) ≡ None
    pub free : IsFree a t
    pub offered : IsOffered q r comm rank plan
    pub puts : OneSlot a b t.slot t.generation 0 (Some y) (number_of (Idle comm))
    pub is : shown y ≡ made rank comm plan (place_of q comm rank) 0 (record { round = 0; index = 0; buf = [] })

  -- a post: its instance has room, and its first action says where it lies
  pub record Posts (s : State) (a b : Slots R) (q r : Postings) (m n : Instances) (t : Ticket) (rank comm : ℕ)
      (plan : Planned) (bytes : List ℕ) (y : R) (o : Progress) (list : ℕ) : Type 0 where
    pub accepted : refusal g s (Post rank comm plan bytes) ≡ None
    pub are : AreBytes bytes
    pub free : IsFree a t
    pub offered : IsOffered q r comm rank plan
    pub joined : IsJoined m n (record { comm = comm; place = place_of q comm rank; start = 0 }) plan.member t.slot bytes
    pub puts : OneSlot a b t.slot t.generation (lent plan.sig plan.n plan.member) (Some y) list
    pub is : shown y ≡ made rank comm plan (place_of q comm rank) 1 o
    pub buf : o.buf ≡ laid_in (family plan.sig plan.n plan.member) bytes
    pub over : Over (family plan.sig plan.n plan.member) 0 0 o.round o.index
    pub stands : Stands plan.n (mail m (record { comm = comm; place = place_of q comm rank; start = 0 })) list (shown y)

  -- a start of the ticket's request x
  pub record Restarts (s : State) (a b : Slots R) (m n : Instances) (t : Ticket) (rank : ℕ) (bytes : List ℕ)
      (x y : R) (o : Progress) (list : ℕ) : Type 0 where
    pub accepted : refusal g s (Start rank t bytes) ≡ None
    pub are : AreBytes bytes
    pub found : IsFound a t x
    pub joined : IsJoined m n (at (shown x) (shown x).starts) (shown x).member t.slot bytes
    pub puts : OneSlot a b t.slot t.generation (lent (shown x).sig (shown x).members (shown x).member) (Some y) list
    pub is : shown y ≡ begun (shown x) o
    pub buf : o.buf ≡ laid_in (family (shown x).sig (shown x).members (shown x).member) bytes
    pub over : Over (family (shown x).sig (shown x).members (shown x).member) 0 0 o.round o.index
    pub stands : Stands (shown x).members (mail m (at (shown x) (shown x).starts)) list (shown y)

  -- a completion of the ticket's request x
  pub record Completes (s : State) (a b : Slots R) (m n : Instances) (t : Ticket) (rank : ℕ) (x : R)
      (bytes : List ℕ) (last : Bool) : Type 0 where
    pub accepted : refusal g s (Retire rank t) ≡ None
    pub found : IsFound a t x
    pub on_done : home a t.slot ≡ number_of (Done (shown x).comm)
    pub bytes_is : bytes ≡ read_of (shown x).buf (family (shown x).sig (shown x).members (shown x).member).output
    pub rests : Rests shown (shown x).sig.mode a b t x
    pub left : IsLeft m n (key (shown x)) (shown x).member last

  -- a free
  pub record Releases (s : State) (a b : Slots R) (t : Ticket) (rank : ℕ) (x : R) : Type 0 where
    pub accepted : refusal g s (Free rank t) ≡ None
    pub found : IsFound a t x
    pub puts : OneSlot a b t.slot t.generation 0 None (given_up a.wear t.generation)

module _ {R : Type 0} (shown : R → Live) where
  -- the ticket's request x, of Ready or Running, does one action, becomes y at point o, and lies where its next says
  pub record Advances (a b : Slots R) (n : Instances) (t : Ticket) (x y : R) (act : Action) (o : Progress)
      (list : ℕ) : Type 0 where
    pub found : IsFound a t x
    pub active : (shown x).active ≡ true
    pub from : (home a t.slot ≡ number_of Ready) ⊎ (home a t.slot ≡ number_of Running)
    pub next_is : next (shown x).members (shown x) ≡ Some act
    pub puts : OneSlot a b t.slot t.generation (weight_of a t.slot) (Some y) list
    pub is : shown y ≡ advanced (shown x) o
    pub over : Over (family (shown x).sig (shown x).members (shown x).member)
        (shown x).round (suc (shown x).index) o.round o.index
    pub stands : Stands (shown x).members (mail n (key (shown x))) list (shown y)

  -- the ticket's Combine is handed out, or comes back undone
  pub record Moves (a b : Slots R) (t : Ticket) (x : R) (list : ℕ) : Type 0 where
    pub op : Op
    pub ty : Datatype
    pub left : Region
    pub right : Region
    pub into : Region
    pub found : IsFound a t x
    pub active : (shown x).active ≡ true
    pub from : (home a t.slot ≡ number_of Ready) ⊎ (home a t.slot ≡ number_of Running)
    pub next_is : next (shown x).members (shown x) ≡ Some (Combine op ty left right into)
    pub onto : (list ≡ number_of Ready) ⊎ (list ≡ number_of Running)
    pub puts : OneSlot a b t.slot t.generation (weight_of a t.slot) (Some x) list
