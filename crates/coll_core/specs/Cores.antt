-- What an engine is made of, and what its parts show.
use Rattle.std.specs.Prelude.{◌≡◌, ℕ}
use Rattle.coll_arena.specs.Slots.{Slots}
use Rattle.coll_queues.specs.Postings.{Postings}
use Rattle.coll_machine.specs.Common.{Setting, Machine}
use Rattle.coll_refinement.specs.Cores as tabled
use Rattle.coll_refinement.specs.Shown as tabled_parts
use Rattle.coll_refinement.specs.Tables.{Tables, machine}
use Rattle.coll_core.specs.declared.request.Request.{Request}
use Rattle.coll_core.specs.Requests.{shown}

-- three limits that no part has, and the parts
pub record Parts : Type 0 where
  pub ranks : ℕ
  pub starts : ℕ
  pub trace : ℕ
  pub arena : Slots Request
  pub queues : Postings
  pub matches : tabled_parts.Instances

abbrev pub setting : Parts → Setting
setting p = tabled_parts.setting_of p.ranks p.starts p.trace p.arena p.queues

abbrev pub tables : Parts → Tables
tables p = tabled_parts.tables shown (setting p) p.arena p.queues p.matches

-- what callers can know of the engine
abbrev pub seen : Parts → Machine
seen p = machine (tables p)

-- the condition that every call keeps
abbrev pub IsCore : Parts → Type 0
IsCore p = tabled.IsCore shown (setting p) p.arena p.queues p.matches

-- memory may have grown, and nothing else has changed
pub record Unchanged (old new : Parts) : Type 0 where
  pub setting_is : setting new ≡ setting old
  pub tables_is : tables new ≡ tables old
  pub arena_is : new.arena ≡ old.arena
