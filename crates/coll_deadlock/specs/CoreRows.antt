-- Worked rows: machines of which the definitions are false, and a run that waits though no run of its job stalls.
use Rattle.std.specs.Prelude.{◌≡◌, ℕ, false, true, [], ◌∷◌}
use Rattle.coll_kinds.specs.declared.kind.Kind.TheVariants.{Bcast}
use Rattle.coll_kinds.specs.declared.kind.Mode.TheVariants.{Once}
use Rattle.coll_kinds.specs.declared.signature.Signature.{Signature}
use Rattle.coll_kinds.specs.declared.ticket.Ticket.{Ticket}
use Rattle.coll_kinds.specs.Common.{needs, put}
use Rattle.coll_machine.specs.Common.{Setting, Request, Machine, nothing, new_request, created, started, phased, barrier}
use Rattle.coll_plans.specs.Hearings.{hears_here}
use Rattle.coll_verdict.specs.Standings.{Standing, AtEnd}
use Rattle.coll_verdict.specs.Stalls.{lines_of}
use Rattle.coll_verdict.specs.Waiting.{ReachesBy, StallsNeverBy}
use Rattle.coll_verdict.specs.Rows.{lone, one_rank}
use Rattle.coll_deadlock.specs.Heard.{IsSettled, NoneEarly}
use Rattle.coll_deadlock.specs.Runs.{AllWait}

-- ---- two ranks post a barrier

abbrev pub pair : Setting
pair = record { ranks = 2; groups = (0 ∷ 1 ∷ []) ∷ []; slots = 2; places = 1; wear = 1; starts = 1; trace = 4 }

abbrev pub first_ticket : Ticket
first_ticket = record { slot = 0; generation = 1 }

abbrev pub second_ticket : Ticket
second_ticket = record { slot = 1; generation = 1 }

abbrev pub first : Request
first = new_request 0 0 0 0 Once

abbrev pub second : Request
second = new_request 1 0 1 0 Once

abbrev pub one_posted : Machine
one_posted = phased (started (created nothing first_ticket first barrier) 0 first []) (λ slot. false)

abbrev pub both_posted : Machine
both_posted = phased (started (created one_posted.state second_ticket second barrier) 1 second []) (λ slot. false)

-- while neither is Done, what has heard isn't Done: a request of theirs is ready
abbrev pub BothAreUnsettled : Type 0
BothAreUnsettled = IsSettled pair both_posted → ⊥

-- were the first Done before the second is posted, that would be early
abbrev pub OneIsEarly : Type 0
OneIsEarly = NoneEarly pair (phased one_posted.state (put one_posted.done 0 true)) → ⊥

-- ---- one rank posts a barrier and waits for it

-- no run of it stalls, and before the barrier is Done it waits: so nothing is said of an engine that can go on
pub record WaitsUnsettled : Type 0 where
  pub never : StallsNeverBy hears_here lone
  pub s : Standing
  pub reached : ReachesBy hears_here one_rank (lines_of lone) s
  pub waits : AllWait one_rank (lines_of lone) s
  pub early : AtEnd (lines_of lone) s → ⊥
  pub unsettled : IsSettled one_rank s.machine → ⊥

-- ---- four ranks broadcast a number

abbrev pub bcast_of_one : Signature
bcast_of_one = record barrier { kind = Bcast; count = 1 }

-- the value of the last rests on the root alone, and by the schedules it waits for another too, through whom it has the bytes
pub record HearsMore : Type 0 where
  pub other : ℕ
  pub needless : needs bcast_of_one 4 3 other ≡ false
  pub heard : hears_here bcast_of_one 4 3 other ≡ true
