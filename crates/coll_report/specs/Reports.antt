-- What a closed engine leaves.
use Rattle.std.specs.Prelude.{◌≡◌, List}
use Rattle.coll_machine.specs.Common.{Setting, AreGroups, State, Entry, LegalTrace}
use Rattle.coll_report.specs.Told.{IsIdle}
use Rattle.coll_core.specs.declared.config.Config.{Config}
use Rattle.coll_core.specs.Configs.{setting_by}
use Rattle.coll_core.specs.Cores.{Parts, seen, setting}
use Rattle.coll_report.specs.declared.entry.Entry as rust_entry
use Rattle.coll_report.specs.Views.{trace_seen}

pub record Closed : Type 0 where
  pub setting : Setting
  pub entries : List Entry

-- an engine opened with that configuration, and its entries
abbrev pub closed_by : Config → List rust_entry.Entry → Closed
closed_by config entries = record { setting = setting_by config; entries = trace_seen entries }

-- the trace is a legal one of an engine with that setting, and nothing is active where it ends
pub record IsClosed (r : Closed) : Type 0 where
  pub groups : AreGroups r.setting  -- no rank is twice in a communicator
  pub last : State
  pub legal : LegalTrace r.setting r.entries last
  pub idle : IsIdle last

-- the core is the one whose trace it is, at the trace's end
pub record EndsWith (p : Parts) (r : Closed) : Type 0 where
  pub closed : IsClosed r
  pub setting_is : r.setting ≡ setting p
  pub last_is : closed.last ≡ (seen p).state
