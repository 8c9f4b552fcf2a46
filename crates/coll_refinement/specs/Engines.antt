-- What the calls of an engine promise one another of its arena, posting lists and instances, before a call (a, q, m) and
-- after it.
use Rattle.std.specs.Prelude.{◌≡◌, ◌⊎◌, ◌==◌, ℕ, List, [], ◌∷◌, ◌++◌, Some, None, Option, if◌then◌else◌}
use Rattle.coll_kinds.specs.declared.kind.Mode.{Mode}
use Rattle.coll_kinds.specs.declared.kind.Mode.TheVariants.{Once, Persistent}
use Rattle.coll_kinds.specs.declared.ticket.Ticket.{Ticket}
use Rattle.coll_arena.specs.declared.list_name.ListName.TheVariants.{Free, Worn, Ready, Idle, Queue}
use Rattle.coll_arena.specs.ListNames.{number_of}
use Rattle.coll_arena.specs.Slots.{Slots, generation_of, home, record_in, weight_of}
use Rattle.coll_queues.specs.Postings.{Postings, number_of as number_in, size}
use Rattle.coll_machine.specs.declared.key.Key.{Key}
use Rattle.coll_machine.specs.Common.{put_in, Planned, plan_refusals}
use Rattle.coll_match.specs.Instances.{given, mail, members, seats}
use Rattle.coll_refinement.specs.Requests.{Live, key, advanced}
use Rattle.coll_refinement.specs.Sound.{Stands, Called}
use Rattle.coll_refinement.specs.Shown.{Instances, listed}
use Rattle.coll_refinement.specs.OneSlots.{OneSlot}
use Rattle.coll_kinds.specs.declared.refusal.Refusal.{Refusal}
use Rattle.coll_queues.specs.Refusing.{judge_refusal, member_refusal}

-- of a plan that is to enter the rank's posting list, with a call of that mode
abbrev pub entry_refusals : Postings → ℕ → ℕ → Mode → Planned → List (Option Refusal)
entry_refusals q rank comm mode plan =
    member_refusal q comm rank
    ∷ plan_refusals plan (size q comm) (number_in q comm rank) mode
    ++ judge_refusal q comm rank plan.sig
    ∷ []

-- the ticket names the record
pub record IsFound {R : Type 0} (a : Slots R) (t : Ticket) (x : R) : Type 0 where
  pub here : record_in a t.slot ≡ Some x
  pub generation_is : generation_of a t.slot ≡ t.generation

-- a member's bytes and its slot enter an instance
pub record IsJoined (m n : Instances) (k : Key) (member slot : ℕ) (bytes : List ℕ) : Type 0 where
  pub members : members n ≡ members m
  pub given : given n ≡ put_in (given m) k member (Some bytes)
  pub seats : seats n ≡ put_in (seats m) k member (Some slot)
  pub mail : mail n ≡ mail m

-- a slot that was given up goes where its age puts it
abbrev pub given_up : ℕ → ℕ → ℕ
given_up wear generation = if generation == wear then number_of Worn else number_of Free

-- what completion leaves in the slot, by the request's mode
abbrev pub Rests : {R : Type 0} → (R → Live) → Mode → Slots R → Slots R → Ticket → R → Type 0
Rests shown Once a b t x = OneSlot a b t.slot t.generation 0 None (given_up a.wear t.generation)
Rests {R} shown Persistent a b t x =
    (y : R)
    × OneSlot a b t.slot t.generation 0 (Some y) (number_of (Idle (shown x).comm))
    × (shown y ≡ advanced (shown x) (record { round = 0; index = 0; buf = [] }))

module _ {R : Type 0} (shown : R → Live) where
  -- the slot that is noted for a member has a request that waits for a message which is there
  pub record IsCalled (b : Slots R) (n : Instances) (k : Key) (to j : ℕ) (x : R) : Type 0 where
    pub seat : seats n k to ≡ Some j
    pub here : record_in b j ≡ Some x
    pub called : Called (shown x).members (mail n (key (shown x))) (home b j) (listed (home b j) (shown x))

  -- the request x that is noted for a member lies on its Queue, can go on, and goes to Ready
  pub record Wakes (b c : Slots R) (n : Instances) (k : Key) (to : ℕ) (t : Ticket) (x : R) : Type 0 where
    pub seat : seats n k to ≡ Some t.slot
    pub found : IsFound b t x
    pub waits : home b t.slot ≡ number_of (Queue (shown x).comm)
    pub ready : Stands (shown x).members (mail n (key (shown x))) (number_of Ready) (shown x)
    pub puts : OneSlot b c t.slot t.generation (weight_of b t.slot) (Some x) (number_of Ready)

  -- a message for a member wakes one request, or there is none that it calls
  abbrev pub Delivers : Slots R → Slots R → Instances → Key → ℕ → Type 0
  Delivers b c n k to =
      (((j : ℕ) (x : R) → IsCalled b n k to j x → ⊥) × (c ≡ b))
      ⊎ ((t : Ticket) × (x : R) × Wakes b c n k to t x)
