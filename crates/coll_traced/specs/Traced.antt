-- A core with the trace of what it accepted.
use Rattle.std.specs.Prelude.{◌≡◌, ◌+◌, ◌<◌, ◌⊎◌, ℕ, Bool, List, length}
use Rattle.coll_kinds.specs.declared.refusal.Refusal.{Refusal}
use Rattle.coll_kinds.specs.declared.refusal.Refusal.TheVariants.{NoMemory, TraceFull}
use Rattle.coll_machine.specs.Common.{Call, Entry, LegalTrace, reserved, AreGroups, Setting}
use Rattle.coll_core.specs.declared.config.Config.{Config}
use Rattle.coll_core.specs.Configs.{setting_by}
use Rattle.coll_core.specs.Calls.{Refuses}
use Rattle.coll_core.specs.Cores.{Parts, seen, setting}
use Rattle.coll_traced.specs.Waits.{WaitFor}

-- the core, and the trace of what it accepted
pub record Traced : Type 0 where
  pub core : Parts
  pub entries : List Entry
  pub waits : List WaitFor  -- what each port waits for, by rank
  pub stalled : List Bool  -- which ports have waited since it was found that nothing can go on, by rank

-- what is kept of an engine with that setting, which was opened with that configuration, where that many entries are spoken for
pub record IsKept (g : Setting) (config : Config) (core : Parts) (entries : List Entry) (spoken_for : ℕ) : Type 0 where
  pub set : setting_by config ≡ g
  pub opened : setting core ≡ setting_by config
  pub groups : AreGroups (setting_by config)  -- no rank is twice in a communicator
  -- the entries may come one after the other, lead to the core's state, and leave room for all that they speak for
  pub legal : LegalTrace (setting core) entries (seen core).state
  pub limit_is : config.trace ≡ (setting core).trace
  pub reserves : spoken_for ≡ reserved (setting core) (seen core).state

-- an entry and the one that it speaks for would pass the trace's limit
abbrev pub IsFull : Traced → Type 0
IsFull t = (setting t.core).trace < length t.entries + reserved (setting t.core) (seen t.core).state + 2

-- why a post, an initialisation or a start is refused: the trace is full; or else memory for the entries was refused,
-- or the core refuses it
abbrev pub Denies : Traced → Call → Refusal → Type 0
Denies t call why =
    ((why ≡ TraceFull) × IsFull t)
    ⊎ ((IsFull t → ⊥) × ((why ≡ NoMemory) ⊎ Refuses (setting t.core) (seen t.core) call why))

-- nothing has changed that callers see
pub record Stays (old new : Traced) : Type 0 where
  pub setting_is : setting new.core ≡ setting old.core
  pub seen_is : seen new.core ≡ seen old.core
  pub entries_are : new.entries ≡ old.entries
  pub waits_are : new.waits ≡ old.waits
  pub stalled_is : new.stalled ≡ old.stalled
