-- What an engine is opened with.
use Rattle.std.specs.Prelude.{◌≡◌, ◌⊎◌, ℕ, ℤ, nat_lt, pos, if◌then◌else◌, List, length, map, Option, Some, None, IsSome}
use Rattle.std.specs.List.{concat}
use Rattle.coll_kinds.specs.declared.refusal.Refusal.{Refusal}
use Rattle.coll_kinds.specs.declared.refusal.Refusal.TheVariants.{BadConfig, NoMemory}
use Rattle.coll_kinds.specs.declared.refusal.ConfigField.TheVariants.{Groups}
use Rattle.coll_kinds.specs.Refusals.{number_of}
use Rattle.coll_machine.specs.Settings.{Setting}
use Rattle.coll_core.specs.declared.config.Config.{Config}
use Rattle.coll_core.specs.Configs.{IsUnopened, idle, setting_by}
use Rattle.coll_core.specs.Cores.{Parts, seen, setting}
use Rattle.worzsunab.specs.declared.forms.Limits.{Limits}
use Rattle.worzsunab.specs.declared.reason.Reason.{Reason}
use Rattle.worzsunab.specs.Reasons.{reason_of}

-- the groups lie one after the other in the members, each as long as its size
pub record IsCut (sizes members : List ℕ) (groups : List (List ℕ)) : Type 0 where
  pub sizes_are : map (λ (group : List ℕ). length group) groups ≡ sizes
  pub members_are : concat groups ≡ members

-- no groups lie so
abbrev pub IsUncut : List ℕ → List ℕ → Type 0
IsUncut sizes members = (groups : List (List ℕ)) → IsCut sizes members groups → ⊥

-- more ranks than a byte counts are as many as it does, and that is more than there may be
abbrev pub counted : ℕ → ℕ
counted ranks = if nat_lt 255 ranks then 255 else ranks

-- what the limits say, with these groups; no trace is kept here, so its length is the greatest
abbrev pub setting_of : Limits → List (List ℕ) → Setting
setting_of l groups = record {
  ranks = counted l.ranks;
  groups = groups;
  slots = l.slots;
  places = l.places;
  wear = l.wear;
  starts = l.starts;
  trace = 1048576;
}

-- the engine was opened with these limits and these communicators
pub record IsOpened (l : Limits) (sizes members : List ℕ) (p : Parts) : Type 0 where
  pub groups : List (List ℕ)
  pub is_cut : IsCut sizes members groups
  pub setting_is : setting p ≡ setting_of l groups

-- why there are no groups: the members are more or fewer than the sizes say, or memory was refused
abbrev pub DeniesGroups : List ℕ → List ℕ → Refusal → Type 0
DeniesGroups sizes members why = ((why ≡ BadConfig Groups) × IsUncut sizes members) ⊎ (why ≡ NoMemory)

-- why no engine is opened with these limits and communicators: a field is out of its range, or memory was refused
pub record DeniesConfig (l : Limits) (sizes members : List ℕ) (why : Refusal) : Type 0 where
  pub groups : List (List ℕ)
  pub is_cut : IsCut sizes members groups
  pub config : Config
  pub config_is : setting_by config ≡ setting_of l groups
  pub unopened : IsUnopened config why

abbrev pub DeniesOpen : Limits → List ℕ → List ℕ → Refusal → Type 0
DeniesOpen l sizes members why = DeniesGroups sizes members why ⊎ DeniesConfig l sizes members why

-- one of three: there is an engine already; none is opened; or one is, without requests
pub data Opens (old new : Option Parts) (had noted : Reason) (code : ℤ) (l : Limits) (sizes members : List ℕ) : Type 0 where
  again : IsSome old → new ≡ old → noted ≡ had → code ≡ pos 21 → Opens old new had noted code l sizes members
  refused : (why : Refusal) → old ≡ None → new ≡ None → noted ≡ reason_of why → DeniesOpen l sizes members why
      → code ≡ pos (number_of why) → Opens old new had noted code l sizes members
  done : (p : Parts) → old ≡ None → new ≡ Some p → noted ≡ had → seen p ≡ idle → IsOpened l sizes members p → code ≡ pos 0
      → Opens old new had noted code l sizes members
