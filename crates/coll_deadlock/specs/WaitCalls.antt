-- The calls by which the ranks of a job wait on their ports.
use Rattle.std.specs.Prelude.{◌≡◌, true, map}
use Rattle.std.specs.List.{list_any}
use Rattle.coll_machine.specs.Common.{Machine}
use Rattle.coll_parser.specs.declared.command.Command.{Command}
use Rattle.coll_parser.specs.declared.command.Command.TheVariants.{Wait, WaitAll, WaitSome, WaitAny}
use Rattle.coll_complete.specs.Requests.{is_active, is_pending}
use Rattle.coll_traced.specs.declared.awaited.Awaited.{Awaited}
use Rattle.coll_traced.specs.declared.awaited.Awaited.TheVariants as awaited
use Rattle.coll_verdict.specs.Standings.{Holding}

-- the call of a line that waits, on the requests that the rank holds
abbrev pub IsCallOf : Holding → Command → Awaited → Type 0
IsCallOf h (Wait q) (awaited.One request) = request.now ≡ h.of q
IsCallOf h (WaitAll qs) (awaited.All requests) = requests.now ≡ map h.of qs
IsCallOf h (WaitSome qs) (awaited.Any requests) = requests.now ≡ map h.of qs
IsCallOf h (WaitAny qs) (awaited.Any requests) = requests.now ≡ map h.of qs
IsCallOf h c wanted = ⊥

-- its test said that it isn't over: the request was Pending, some of a list were active. Of all requests of a list what is noted says it
abbrev pub IsUnmet : Machine → Awaited → Type 0
IsUnmet m (awaited.One request) = is_pending m request.now ≡ true
IsUnmet m (awaited.Any requests) = list_any (is_active m) requests.now ≡ true
IsUnmet m (awaited.All requests) = Unit {0}
