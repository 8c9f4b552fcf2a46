-- How large an engine is opened to run a job: one place in each table for each request, and room for all entries of the
-- trace.
use Rattle.std.specs.Prelude.{ℕ, ◌+◌, ◌*◌, List, count_by, is_some, max}
use Rattle.coll_parser.specs.declared.issued_command.IssuedCommand.{IssuedCommand}
use Rattle.coll_parser.specs.Histories.{posting, is_start}
use Rattle.coll_script.specs.declared.sizes.Sizes.{Sizes}

-- how many lines make a request
abbrev pub made : List IssuedCommand → ℕ
made issued = count_by (λ t. is_some (posting t.command)) issued

-- how many lines start one
abbrev pub started : List IssuedCommand → ℕ
started issued = count_by (λ t. is_start t.command) issued

-- no slot is used up, and no request has more starts than a text has lines
abbrev pub sizes_of : List IssuedCommand → Sizes
sizes_of issued = record {
  slots = max (made issued) 1;
  places = max (made issued) 1;
  wear = 4294967295;
  starts = 1048576;
  trace = max (2 * (made issued + started issued)) 2;
}
