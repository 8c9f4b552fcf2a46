-- A schedule for each member, what they compute in lock-step, and whose contributions reach a member
use Rattle.std.specs.Prelude.{◌≡◌, ◌==◌, ◌⊎◌, ◌<◌, ◌≤◌, ℕ, zero, suc, cond, Bool, true, false, List, [], ◌∷◌, length, replicate, slice_get, unwrap_or}
use Rattle.std.specs.Prelude.{Option, Some, None, count_by}
use Rattle.std.specs.List.{AllByRecursion, list_any}
use Rattle.coll_sched.specs.declared.region.Region.{Region}
use Rattle.coll_sched.specs.declared.action.Action.{Action}
use Rattle.coll_sched.specs.declared.action.Action.TheVariants.{Send, Copy, Combine, Recv}
use Rattle.coll_sched.specs.Regions.{read_of, written}
use Rattle.coll_sched.specs.Actions.{IsAmong, wrote_all}
use Rattle.coll_sched.specs.Schedules.{Parts, IsSchedule, has_peer}

-- one schedule for each member number
abbrev pub Family : Type 0
Family = ℕ → Parts

-- the actions of member r in round j: none past the last round
abbrev pub actions_at : Family → ℕ → ℕ → List Action
actions_at f j r = unwrap_or (slice_get (f r).rounds j) []

-- the region that these actions send to member r: that of the first such Send
abbrev pub out_link : ℕ → List Action → Option Region
out_link r [] = None
out_link r (Send to from ∷ rest) = cond (to == r) (Some from) (out_link r rest)
out_link r (Copy from into ∷ rest) = out_link r rest
out_link r (Combine op ty left right into ∷ rest) = out_link r rest
out_link r (Recv of into ∷ rest) = out_link r rest

-- the region into which these actions receive of member p: that of the first such Recv
abbrev pub in_link : ℕ → List Action → Option Region
in_link p [] = None
in_link p (Send to from ∷ rest) = in_link p rest
in_link p (Copy from into ∷ rest) = in_link p rest
in_link p (Combine op ty left right into ∷ rest) = in_link p rest
in_link p (Recv of into ∷ rest) = cond (of == p) (Some into) (in_link p rest)

-- the bytes of a region; no bytes without one
abbrev pub read_at : List ℕ → Option Region → List ℕ
read_at buf None = []
read_at buf (Some g) = read_of buf g

-- the message that these actions send to member r
abbrev pub sent : ℕ → List Action → List ℕ → List ℕ
sent r actions buf = read_at buf (out_link r actions)

-- the buffer with the contribution laid in, and zeros elsewhere
abbrev pub laid_in : Parts → List ℕ → List ℕ
laid_in p bytes = written (replicate p.size 0) p.input bytes

-- T(j) at r: the buffer of member r before round j, where every read of a round is of the buffers before it
abbrev pub lock_step : Family → (ℕ → List ℕ) → ℕ → ℕ → List ℕ
lock_step f given zero r = laid_in (f r) (given r)
lock_step f given (suc j) r =
    wrote_all (λ p. sent r (actions_at f j p) (lock_step f given j p)) (lock_step f given j r) (actions_at f j r)
    (lock_step f given j r)

-- the messages to member r in round j
abbrev pub messages : Family → (ℕ → List ℕ) → ℕ → ℕ → ℕ → List ℕ
messages f given j r p = sent r (actions_at f j p) (lock_step f given j p)

-- what member r has in the end
abbrev pub result_at : Family → (ℕ → List ℕ) → ℕ → List ℕ
result_at f given r = read_of (lock_step f given (length (f r).rounds) r) (f r).output

-- the action is a Recv of member p
abbrev pub IsRecvOf : Action → ℕ → Type 0
IsRecvOf (Send to from) p = ⊥
IsRecvOf (Copy from into) p = ⊥
IsRecvOf (Combine op ty left right into) p = ⊥
IsRecvOf (Recv of into) p = of ≡ p

-- these actions receive of member p
abbrev pub Receives : List Action → ℕ → Type 0
Receives [] p = ⊥
Receives (a ∷ rest) p = IsRecvOf a p ⊎ Receives rest p

-- H(j, r): what member p gave can have reached member r before round j
abbrev pub Heard : Family → ℕ → ℕ → ℕ → Type 0
Heard f zero r p = p ≡ r
Heard f (suc j) r p = Heard f j r p ⊎ ((q : ℕ) × Receives (actions_at f j r) q × Heard f j q p)

-- a link's length; None without one
abbrev pub len_of : Option Region → Option ℕ
len_of None = None
len_of (Some g) = Some g.len

-- n members' schedules: equally many rounds, peers among the members, and each Recv has its Send of the same length
pub record IsLawful (n : ℕ) (f : Family) : Type 0 where
  pub schedules : (r : ℕ) → r < n → IsSchedule (f r)
  pub same_rounds : (r p : ℕ) → r < n → p < n → length (f r).rounds ≡ length (f p).rounds
  pub peers : (j r : ℕ) → r < n → AllByRecursion (IsAmong n) (actions_at f j r)
  pub aligned : (j r p : ℕ)
      → r < n
      → p < n
      → len_of (in_link p (actions_at f j r)) ≡ len_of (out_link r (actions_at f j p))

-- the numbers of c members from k on
abbrev pub members : ℕ → ℕ → List ℕ
members k zero = []
members k (suc c) = k ∷ members (suc k) c

-- some member has a Send or a Recv in round j
abbrev pub is_exchange : ℕ → Family → ℕ → Bool
is_exchange n f j = list_any (λ r. list_any has_peer (actions_at f j r)) (members 0 n)

-- the rounds of a family in which some member has a Send or a Recv
abbrev pub family_exchanges : ℕ → Family → ℕ
family_exchanges n f = count_by (is_exchange n f) (members 0 (length (f 0).rounds))

-- the action is a Send
abbrev pub is_send : Action → Bool
is_send (Send to from) = true
is_send (Copy from into) = false
is_send (Combine op ty left right into) = false
is_send (Recv of into) = false

-- the action is a Recv
abbrev pub is_recv : Action → Bool
is_recv (Send to from) = false
is_recv (Copy from into) = false
is_recv (Combine op ty left right into) = false
is_recv (Recv of into) = true

-- no member has two Sends or two Recvs in one round
pub record IsNarrow (n : ℕ) (f : Family) : Type 0 where
  pub one_send : (j r : ℕ) → r < n → count_by is_send (actions_at f j r) ≤ 1
  pub one_recv : (j r : ℕ) → r < n → count_by is_recv (actions_at f j r) ≤ 1
