-- The commands of a job text, as those that a trace shows.
use Rattle.std.specs.Prelude.{ℕ, nat_lt, List, [], map, unwrap_or, if◌then◌else◌}
use Rattle.coll_parser.specs.Histories.{History, commands_of}
use Rattle.coll_parser.specs.Requests.{Request}
use Rattle.coll_parser.specs.declared.command.Command as text
use Rattle.coll_parser.specs.declared.command.Command.TheVariants as line
use Rattle.coll_report.specs.Scripts.{Command, Post, Init, Start, Other, Asked}

-- a command, as a trace shows it; of a wait, a test or a free it shows nothing that is posted or given
abbrev pub traced : text.Command → Command
traced (line.Post comm sig given) = Post comm sig given
traced (line.Init comm sig) = Init comm sig
traced (line.Start q given) = Start q given
traced (line.Wait q) = Other
traced (line.Test q) = Other
traced (line.Free q) = Other
traced (line.WaitAny qs) = Other
traced (line.WaitSome qs) = Other
traced (line.WaitAll qs) = Other

-- commands, as a trace shows them
abbrev pub all_traced : List text.Command → List Command
all_traced commands = map traced commands

-- what each rank of a job has to do; a number that is no rank of it has nothing to do
abbrev pub commands_by : History → ℕ → List Command
commands_by h rank = if nat_lt rank (unwrap_or h.ranks 0) then all_traced (commands_of h rank) else []

-- a request of the text, as the commands of its rank make it
abbrev pub as_asked : Request → Asked
as_asked p = record { comm = p.comm; sig = p.sig; starts = p.starts }
