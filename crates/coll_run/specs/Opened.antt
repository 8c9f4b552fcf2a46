-- What an engine is opened with for a job.
use Rattle.std.specs.Prelude.{ℕ, unwrap_or}
use Rattle.coll_parser.specs.Histories.{History}
use Rattle.coll_script.specs.Configs.{sizes_of}
use Rattle.coll_machine.specs.Settings.{Setting}

-- the ranks and communicators of its script, and sizes with room for all that the script asks for
abbrev pub setting_for : History → Setting
setting_for h = record {
  ranks = unwrap_or h.ranks 0;
  groups = h.groups;
  slots = (sizes_of h.commands).slots;
  places = (sizes_of h.commands).places;
  wear = (sizes_of h.commands).wear;
  starts = (sizes_of h.commands).starts;
  trace = (sizes_of h.commands).trace;
}
