-- When an engine can be closed.
use Rattle.std.specs.Prelude.{◌≡◌, ◌==◌, ◌<◌, ◌⊎◌, ℕ, Bool, true, false}
use Rattle.std.specs.Prelude.{List, Contains, Option, Some, None, length, count_by, slice_index}
use Rattle.coll_kinds.specs.declared.refusal.Refusal.{Refusal}
use Rattle.coll_kinds.specs.declared.refusal.Refusal.TheVariants.{StillActive, Torn}
use Rattle.coll_machine.specs.Common.{Entry, Posted, Inited, Started, Retired, Freed, Request, State, Setting, LegalTrace}
use Rattle.coll_report.specs.Told.{IsIdle}
use Rattle.coll_core.specs.Cores.{seen, setting}
use Rattle.coll_report.specs.Traces.{completes_by, entries_of}
use Rattle.coll_traced.specs.Traced.{Traced}

-- the entry is a post or a start by the rank: it makes a request active
abbrev pub begins_by : ℕ → Entry → Bool
begins_by r (Posted rank t comm place sig bytes) = rank == r
begins_by r (Inited rank t comm place sig) = false
begins_by r (Started rank t start bytes) = rank == r
begins_by r (Retired rank t comm place start bytes) = false
begins_by r (Freed rank t) = false

-- as many requests of the rank were completed as were posted and started
abbrev pub IsBalanced : ℕ → List Entry → Type 0
IsBalanced r es = count_by (begins_by r) es ≡ count_by (completes_by r) es

-- whether it is the rank
abbrev pub is_rank : ℕ → Option ℕ → Bool
is_rank r None = false
is_rank r (Some rank) = rank == r

-- at each number that a rank may have, how many entries are of that rank
pub record AreCounts (by : ℕ → Entry → Bool) (es : List Entry) (counts : List ℕ) : Type 0 where
  pub all : length counts ≡ 256
  pub each : (rank : ℕ) → rank < 256 → slice_index counts rank ≡ count_by (by rank) es

-- the rank has an active request
pub record IsBusy (s : State) (rank : ℕ) : Type 0 where
  pub slot : ℕ
  pub request : Request
  pub is : s.request slot ≡ Some request
  pub rank_is : request.rank ≡ rank
  pub active : request.active ≡ true

-- and none below it has
pub record IsFirstBusy (s : State) (rank : ℕ) : Type 0 where
  pub busy : IsBusy s rank
  pub first : (r : ℕ) → r < rank → IsBusy s r → ⊥

-- the ends of one port of each rank, in any order, each with as many entries as its rank has
pub record AreEnds (ranks : ℕ) (es : List Entry) (ends : List (ℕ × ℕ)) : Type 0 where
  pub many : length ends ≡ ranks
  pub each : (rank : ℕ) → rank < ranks → Contains ends (rank, entries_of rank es)

-- why an engine can't be closed with these ends of ports: a rank has an active request, or else the ends aren't those
-- of all ports
abbrev pub Objects : Traced → List (ℕ × ℕ) → Refusal → Type 0
Objects t ends why =
    ((rank : ℕ) × (why ≡ StillActive rank) × IsFirstBusy (seen t.core).state rank)
    ⊎ (IsIdle (seen t.core).state × (AreEnds (setting t.core).ranks t.entries ends → ⊥) × (why ≡ Torn))

-- the same, without naming what lay under the lock: an engine with that setting and a legal trace
pub record IsObjected (g : Setting) (ends : List (ℕ × ℕ)) (why : Refusal) : Type 0 where
  pub at : Traced
  pub setting_is : setting at.core ≡ g
  pub legal : LegalTrace g at.entries (seen at.core).state
  pub objects : Objects at ends why
