-- What the programs of an engine's ranks give, and why they gave nothing.
use Rattle.std.specs.Prelude.{◌⊎◌, ℕ, ◌+◌, List, [], ◌∷◌}
use Rattle.coll_kinds.specs.declared.refusal.Refusal.{Refusal}
use Rattle.coll_machine.specs.Settings.{Setting}
use Rattle.coll_core.specs.declared.config.Config.{Config}
use Rattle.coll_core.specs.Configs.{IsUnopened, setting_by}
use Rattle.coll_traced.specs.Awaiting.{IsSetback}
use Rattle.coll_traced.specs.Closings.{IsObjected}

-- each program gave its value with the port of its rank; the first of them is that rank's
abbrev pub AreGiven : {P T : Type 0} → (P → ℕ → T → Type 0) → ℕ → List P → List T → Type 0
AreGiven Gives first [] [] = Unit {0}
AreGiven Gives first (program ∷ programs) (value ∷ values) = Gives program first value × AreGiven Gives (first + 1) programs values
AreGiven Gives first [] (value ∷ values) = ⊥
AreGiven Gives first (program ∷ programs) [] = ⊥

-- with the ends of its ports the engine couldn't be closed
abbrev pub IsLeftOpen : Setting → Refusal → Type 0
IsLeftOpen g why = (ends : List (ℕ × ℕ)) × IsObjected g ends why

-- the engine wasn't opened; a thread couldn't be started, or a progress thread ended before it was to; or the engine wasn't closed
abbrev pub IsNoRun : Config → Refusal → Type 0
IsNoRun config why = IsUnopened config why ⊎ (IsSetback why ⊎ IsLeftOpen (setting_by config) why)
