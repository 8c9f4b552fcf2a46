-- What calls on a core do for a rank that carries a line out.
use Rattle.std.specs.Prelude.{◌≡◌, ℕ, Bool, true, false, List, Some}
use Rattle.std.specs.List.{list_any}
use Rattle.coll_kinds.specs.declared.ticket.Ticket.{Ticket}
use Rattle.coll_kinds.specs.Common.{is_among}
use Rattle.coll_machine.specs.Common.{Machine, MachineStep, MayFinish, Setting}
use Rattle.coll_machine.specs.Calls as calls
use Rattle.coll_parser.specs.declared.command.Command.{Command}
use Rattle.coll_parser.specs.declared.command.Command.TheVariants.{Wait, WaitAny, WaitSome, WaitAll}
use Rattle.coll_verdict.specs.Standings.{Holding, Carries, Completes, holding_at, is_active, is_done, is_pending, kept, NoneDone}
use Rattle.coll_core.specs.Cores.{Parts, seen, setting}
use Rattle.coll_replay.specs.declared.completing.Survey.{Survey}

-- the line is carried out, and perhaps a request becomes Done after that
pub record CarriesOut (p r : Parts) (rank : ℕ) (c : Command) (h i : Holding) : Type 0 where
  pub set : setting r ≡ setting p
  pub mid : Machine
  pub carries : Carries (setting p) rank (seen p) h c mid i
  pub finish : MayFinish (setting p) mid (seen r)

-- one request of a rank is completed
pub record Completed (g : Setting) (rank q : ℕ) (m n : Machine) (h i : Holding) : Type 0 where
  pub comm : ℕ
  pub place : ℕ
  pub start : ℕ
  pub bytes : List ℕ
  pub ticket : Ticket
  pub held : h.of q ≡ Some ticket
  pub step : MachineStep g m (calls.Retire rank ticket) (calls.Outcome rank comm place start bytes) n
  pub leaves : i ≡ holding_at h q (kept n.state ticket)

-- the same, or nothing changes
abbrev pub CompletedIf : Bool → Setting → ℕ → ℕ → Machine → Machine → Holding → Holding → Type 0
CompletedIf true g rank q m n h i = Completed g rank q m n h i
CompletedIf false g rank q m n h i = (n ≡ m) × (i ≡ h)

-- what the requests of these numbers are
pub record IsSurvey (m : Machine) (h : Holding) (qs : List ℕ) (survey : Survey) : Type 0 where
  pub active : survey.has_active ≡ list_any (λ q. is_active m (h.of q)) qs
  pub done : survey.has_done ≡ list_any (λ q. is_done m (h.of q)) qs
  pub pending : survey.has_pending ≡ list_any (λ q. is_pending m (h.of q)) qs

-- those of these requests that are Done are completed; before that they were such
pub record Sweeps (p r : Parts) (rank : ℕ) (qs : List ℕ) (h i : Holding) (before : Survey) : Type 0 where
  pub set : setting r ≡ setting p
  pub completes : Completes (setting p) rank qs (seen p) h (seen r) i
  pub none_left : NoneDone (seen r) i qs
  pub was : IsSurvey (seen p) h qs before

-- one of these requests is active, and none is Done
pub record LacksDone (m : Machine) (h : Holding) (qs : List ℕ) : Type 0 where
  pub q : ℕ
  pub among : is_among q qs ≡ true
  pub active : is_active m (h.of q) ≡ true
  pub none : NoneDone m h qs

-- a call that needn't return while the requests are such
abbrev pub IsBlocked : Machine → Holding → Command → Type 0
IsBlocked m h (Wait q) = is_pending m (h.of q) ≡ true
IsBlocked m h (WaitAll qs) = (q : ℕ) × (is_among q qs ≡ true) × (is_pending m (h.of q) ≡ true)
IsBlocked m h (WaitSome qs) = LacksDone m h qs
IsBlocked m h (WaitAny qs) = LacksDone m h qs
IsBlocked m h c = ⊥
