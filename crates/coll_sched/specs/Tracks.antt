-- What holds of every instance that runs: each member and each message is where lock-step has it
use Rattle.std.specs.Prelude.{◌≡◌, ℕ, ◌+◌, ◌<◌, ◌≤◌, ◌≢◌, ◌==◌, cond, nat_lt, List, [], ◌∷◌, take, length, Option, Some, None}
use Rattle.coll_sched.specs.declared.action.Action.{Action}
use Rattle.coll_sched.specs.declared.action.Action.TheVariants.{Send, Copy, Combine, Recv}
use Rattle.coll_kinds.specs.Elements.{AreBytes}
use Rattle.coll_sched.specs.Actions.{wrote_all}
use Rattle.coll_sched.specs.Families.{Family, actions_at, lock_step, messages, Receives, Heard}
use Rattle.coll_sched.specs.Worlds.{Progress, World, filled}

-- the buffer of member r with the writes of the first i actions of round j done
abbrev pub moment : Family → (ℕ → List ℕ) → ℕ → ℕ → ℕ → List ℕ
moment f given j i r =
    wrote_all (messages f given j r) (lock_step f given j r) (take i (actions_at f j r)) (lock_step f given j r)

-- how many Sends to r
abbrev pub outs : ℕ → Action → ℕ
outs r (Send to from) = cond (to == r) 1 0
outs r (Copy from into) = 0
outs r (Combine op ty a b into) = 0
outs r (Recv of into) = 0

-- how many Recvs of q
abbrev pub ins : ℕ → Action → ℕ
ins q (Send to from) = 0
ins q (Copy from into) = 0
ins q (Combine op ty a b into) = 0
ins q (Recv of into) = cond (of == q) 1 0

-- the sum of a weight over actions
abbrev pub total : (Action → ℕ) → List Action → ℕ
total weight [] = 0
total weight (a ∷ rest) = weight a + total weight rest

-- the actions of round j that the member has done
abbrev pub done_by : Option Progress → Option (List ℕ) → ℕ → List Action → List Action
done_by None None j actions = []
done_by None (Some bytes) j actions = actions
done_by (Some p) g j actions = cond (nat_lt j p.round) actions (cond (j == p.round) (take p.index actions) [])

-- the actions of round j that member r has done
abbrev pub done_at : Family → World → ℕ → ℕ → List Action
done_at f w j r = done_by (w.progress r) (w.given r) j (actions_at f j r)

-- how many messages: one or none
abbrev pub standing : Option (List ℕ) → ℕ
standing None = 0
standing (Some bytes) = 1

-- a member on its way
pub record OnTrack (n : ℕ) (f : Family) (given : ℕ → Option (List ℕ)) (r : ℕ) (p : Progress) : Type 0 where
  pub member : r < n
  pub round_in : p.round ≤ length (f r).rounds
  pub index_in : p.index ≤ length (actions_at f p.round r)
  pub heard : (s : ℕ) → Heard f p.round r s → given s ≢ None
  pub received : (q s : ℕ) → Receives (take p.index (actions_at f p.round r)) q → Heard f p.round q s → given s ≢ None
  pub buffer : p.buf ≡ moment f (filled f given) p.round p.index r

-- a message on its way
pub record InTransit (f : Family) (given : ℕ → Option (List ℕ)) (q r j : ℕ) (bytes : List ℕ) : Type 0 where
  pub is : bytes ≡ messages f (filled f given) j r q
  pub heard : (s : ℕ) → Heard f j q s → given s ≢ None

-- the messages that stand, with those taken, are those sent
abbrev pub Balanced : Family → World → Type 0
Balanced f w = (q r j : ℕ)
    → standing (w.mail q r j) + total (ins q) (done_at f w j r) ≡ total (outs r) (done_at f w j q)

-- an instance on its way: contributions of the right lengths, every member and message on the track, and the balance
pub record Tracks (n : ℕ) (f : Family) (w : World) : Type 0 where
  pub lengths : (r : ℕ) (bytes : List ℕ) → w.given r ≡ Some bytes → length bytes ≡ (f r).input.len
  pub bytes : (r : ℕ) (given : List ℕ) → w.given r ≡ Some given → AreBytes given
  pub members : (r : ℕ) (p : Progress) → w.progress r ≡ Some p → OnTrack n f w.given r p
  pub in_transit : (q r j : ℕ) (bytes : List ℕ) → w.mail q r j ≡ Some bytes → InTransit f w.given q r j bytes
  pub balanced : Balanced f w
