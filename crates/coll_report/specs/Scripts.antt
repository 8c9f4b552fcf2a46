-- What each rank has to do, and what each collective then gives, in whatever order the ranks act.
use Rattle.std.specs.Prelude.{◌≡◌, ◌==◌, ◌<◌, ℕ, zero, suc, List, [], ◌∷◌, ◌++◌, length, map, filter, slice_get, unwrap_or, Option, Some, None}
use Rattle.coll_kinds.specs.declared.signature.Signature.{Signature}
use Rattle.coll_kinds.specs.declared.ticket.Ticket.{Ticket}
use Rattle.coll_kinds.specs.Groups.{member_of}
use Rattle.coll_ops.specs.Values.{value}
use Rattle.coll_machine.specs.Common.{Setting, group, Entry, Posted, Inited, Started}
use Rattle.coll_machine.specs.declared.key.Key.{Key}

pub data Command : Type 0 where
  Post : (comm : ℕ) (sig : Signature) (given : List ℕ) → Command
  Init : (comm : ℕ) (sig : Signature) → Command
  -- a start names a request by its number among its rank's posts and initialisations, from 0
  Start : (request : ℕ) (given : List ℕ) → Command
  -- a wait, a test or a free: it gives nothing, so no value rests on it
  Other : Command

-- a request as its rank's commands make it
pub record Asked : Type 0 where
  pub comm : ℕ
  pub sig : Signature
  pub starts : List (List ℕ)  -- the bytes given at each of its starts

abbrev pub asked_at : ℕ → Signature → List (List ℕ) → Asked
asked_at comm sig starts = record { comm = comm; sig = sig; starts = starts }

abbrev pub one_more : List ℕ → Asked → Asked
one_more given x = asked_at x.comm x.sig (x.starts ++ given ∷ [])

-- the list with one place changed
abbrev pub changed_at : {A : Type 0} → ℕ → (A → A) → List A → List A
changed_at k f [] = []
changed_at zero f (x ∷ xs) = f x ∷ xs
changed_at (suc k) f (x ∷ xs) = x ∷ changed_at k f xs

-- a rank's requests after further commands
abbrev pub asked_from : List Asked → List Command → List Asked
asked_from xs [] = xs
asked_from xs (Post comm sig given ∷ cs) = asked_from (xs ++ asked_at comm sig (given ∷ []) ∷ []) cs
asked_from xs (Init comm sig ∷ cs) = asked_from (xs ++ asked_at comm sig [] ∷ []) cs
asked_from xs (Start q given ∷ cs) = asked_from (changed_at q (one_more given) xs) cs
asked_from xs (Other ∷ cs) = asked_from xs cs

abbrev pub asked : List Command → List Asked
asked cs = asked_from [] cs

-- those on a communicator: the place of each is its number among them
abbrev pub on : ℕ → List Asked → List Asked
on comm xs = filter (λ x. x.comm == comm) xs

abbrev pub at_place : List Asked → ℕ → ℕ → Option Asked
at_place xs comm place = slice_get (on comm xs) place

abbrev pub given_by : ℕ → Option Asked → List ℕ
given_by start None = []
given_by start (Some x) = unwrap_or (slice_get x.starts start) []

-- what the members of a communicator give to one of its collectives, in member order
abbrev pub contributions : Setting → (ℕ → List Asked) → Key → List (List ℕ)
contributions g requests k = map (λ rank. given_by k.start (at_place (requests rank) k.comm k.place)) (group g k.comm)

abbrev pub value_for : Option Asked → List (List ℕ) → ℕ → List ℕ
value_for None given member = []
value_for (Some x) given member = value x.sig given member

-- the outcome of a rank's start of a place, by the commands of all ranks alone
abbrev pub outcome : Setting → (ℕ → List Asked) → ℕ → Key → List ℕ
outcome g requests rank k =
    let member = unwrap_or (member_of rank (group g k.comm)) 0 in
    value_for (at_place (requests rank) k.comm k.place) (contributions g requests k) member

-- a rank's request of a place has such a start
pub record IsAsked (xs : List Asked) (comm place start : ℕ) : Type 0 where
  pub request : Asked
  pub is : at_place xs comm place ≡ Some request
  pub low : start < length request.starts

-- the commands are these posts, initialisations and starts of a trace, one for one; ts are the tickets of the requests
-- before them
abbrev pub Says : List Ticket → List Command → List Entry → Type 0
Says ts [] [] = Unit {0}
Says ts (Post c s b ∷ cs) (Posted rank t comm place sig bytes ∷ es) =
    (comm ≡ c) × (sig ≡ s) × (bytes ≡ b) × Says (ts ++ t ∷ []) cs es
Says ts (Init c s ∷ cs) (Inited rank t comm place sig ∷ es) = (comm ≡ c) × (sig ≡ s) × Says (ts ++ t ∷ []) cs es
Says ts (Start q b ∷ cs) (Started rank t start bytes ∷ es) = (slice_get ts q ≡ Some t) × (bytes ≡ b) × Says ts cs es
Says ts (Other ∷ cs) es = Says ts cs es
Says ts cs es = ⊥
