-- What an engine may be opened with.
use Rattle.std.specs.Prelude.{◌≡◌, ◌<◌, ◌≤◌, ◌⊎◌, ℕ, All, List, length, map, Vec, false}
use Rattle.std.specs.Global.{Global}
use Rattle.coll_kinds.specs.declared.refusal.Refusal.{Refusal}
use Rattle.coll_kinds.specs.declared.refusal.Refusal.TheVariants.{BadConfig, NoMemory}
use Rattle.coll_kinds.specs.declared.refusal.ConfigField.{ConfigField}
use Rattle.coll_kinds.specs.declared.refusal.ConfigField.TheVariants.{Ranks, Groups, Slots, Places, Wear, Starts, Trace}
use Rattle.coll_kinds.specs.Groups.{IsGroup}
use Rattle.coll_kinds.specs.Limits.{max_communicators, max_entries, max_places, max_ranks, max_slots, max_starts}
use Rattle.coll_machine.specs.Common.{Setting, Machine, nothing, phased}
use Rattle.coll_core.specs.declared.config.Config.{Config}

-- at least one member, each of them one of n ranks, and none twice
pub record IsFullGroup (n : ℕ) (group : List ℕ) : Type 0 where
  pub some : 0 < length group
  pub is_group : IsGroup n group

-- the field is in its range
abbrev pub Fits : Config → ConfigField → Type 0
Fits c Ranks = (0 < c.ranks) × (c.ranks ≤ max_ranks)
Fits c Groups =
    (0 < length c.groups.items)
    × (length c.groups.items ≤ max_communicators)
    × All (λ (group : Vec ℕ Global). IsFullGroup c.ranks group.items) c.groups.items
Fits c Slots = (0 < c.slots) × (c.slots ≤ max_slots)
Fits c Places = (0 < c.places) × (c.places ≤ max_places)
Fits c Wear = 0 < c.wear
Fits c Starts = (0 < c.starts) × (c.starts ≤ max_starts)
Fits c Trace = (1 < c.trace) × (c.trace ≤ max_entries)

-- each is
pub record IsConfig (c : Config) : Type 0 where
  pub ranks : Fits c Ranks
  pub groups : Fits c Groups
  pub slots : Fits c Slots
  pub places : Fits c Places
  pub wear : Fits c Wear
  pub starts : Fits c Starts
  pub trace : Fits c Trace

-- those before the field are in their ranges
abbrev pub FitBefore : Config → ConfigField → Type 0
FitBefore c Ranks = Unit {0}
FitBefore c Groups = Fits c Ranks
FitBefore c Slots = Fits c Ranks × Fits c Groups
FitBefore c Places = Fits c Ranks × Fits c Groups × Fits c Slots
FitBefore c Wear = Fits c Ranks × Fits c Groups × Fits c Slots × Fits c Places
FitBefore c Starts = Fits c Ranks × Fits c Groups × Fits c Slots × Fits c Places × Fits c Wear
FitBefore c Trace = Fits c Ranks × Fits c Groups × Fits c Slots × Fits c Places × Fits c Wear × Fits c Starts

-- the field is the first that is out of its range
abbrev pub IsMisfit : Config → ConfigField → Type 0
IsMisfit c field = FitBefore c field × (Fits c field → ⊥)

abbrev pub setting_by : Config → Setting
setting_by c = record {
  ranks = c.ranks;
  groups = map (λ (group : Vec ℕ Global). group.items) c.groups.items;
  slots = c.slots;
  places = c.places;
  wear = c.wear;
  starts = c.starts;
  trace = c.trace;
}

-- an engine without requests
abbrev pub idle : Machine
idle = phased nothing (λ slot. false)

-- the refusal names that field
pub record IsRefused (c : Config) (why : Refusal) : Type 0 where
  pub field : ConfigField
  pub is : why ≡ BadConfig field
  pub misfit : IsMisfit c field

-- why no engine is opened: a field is out of its range, or else memory was refused
abbrev pub IsUnopened : Config → Refusal → Type 0
IsUnopened c why = IsRefused c why ⊎ (IsConfig c × (why ≡ NoMemory))
