-- What calls change in a state.
use Rattle.std.specs.Prelude.{◌==◌, ◌&&◌, ℕ, suc, Bool, true, false, cond, List, [], ◌∷◌, ◌++◌, Option, Some, None}
use Rattle.coll_kinds.specs.declared.kind.Mode.{Mode}
use Rattle.coll_kinds.specs.declared.kind.Mode.TheVariants.{Once, Persistent}
use Rattle.coll_kinds.specs.declared.signature.Signature.{Signature}
use Rattle.coll_kinds.specs.declared.ticket.Ticket.{Ticket}
use Rattle.coll_kinds.specs.Puts.{put}
use Rattle.coll_machine.specs.declared.key.Key.{Key}
use Rattle.coll_machine.specs.States.{Request, State, key_of}

-- a function with another value at two numbers
abbrev pub put2 : {X : Type 0} → (ℕ → ℕ → X) → ℕ → ℕ → X → ℕ → ℕ → X
put2 f a b x = put f a (put (f a) b x)

abbrev pub same_key : Key → Key → Bool
same_key a b = (a.comm == b.comm) && ((a.place == b.place) && (a.start == b.start))

-- one with another value at a collective
abbrev pub put_key : {X : Type 0} → (Key → X) → Key → X → Key → X
put_key f k x a = cond (same_key a k) x (f a)

-- one of collectives and members with another value at one of each
abbrev pub put_in : {X : Type 0} → (Key → ℕ → X) → Key → ℕ → X → Key → ℕ → X
put_in f k member x = put_key f k (put (f k) member x)

-- the slot has this request, or none
abbrev pub holding : State → ℕ → Option Request → State
holding s slot q = record s { request = put s.request slot q }

-- a request that was never started
abbrev pub new_request : ℕ → ℕ → ℕ → ℕ → Mode → Request
new_request rank comm member place mode =
    record { rank = rank; comm = comm; member = member; place = place; mode = mode; starts = 0; active = false }

-- the ticket names the request, and the signature is the next of its member's posting list
abbrev pub created : State → Ticket → Request → Signature → State
created s t q sig = record (holding s t.slot (Some q)) {
  generation = put s.generation t.slot t.generation;
  posts = put2 s.posts q.comm q.member (s.posts q.comm q.member ++ sig ∷ []);
}

abbrev pub once_more : Request → Request
once_more q = record q { starts = suc q.starts; active = true }

-- the slot's request is started with these bytes, its member's contribution to that start
abbrev pub started : State → ℕ → Request → List ℕ → State
started s slot q bytes = record (holding s slot (Some (once_more q))) {
  given = put_in s.given (key_of q q.starts) q.member (Some bytes);
}

-- what completion leaves: nothing of a once request, a persistent one inactive
abbrev pub rested_by : Mode → Request → Option Request
rested_by Once q = None
rested_by Persistent q = Some (record q { active = false })

abbrev pub rested : Request → Option Request
rested q = rested_by q.mode q

-- what was given to the collective isn't kept any longer
abbrev pub forgotten : State → Key → State
forgotten s k = record s { given = put_key s.given k (λ member. None) }
