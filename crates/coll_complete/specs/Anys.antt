-- What a test for one request of a list returns (MPI 4.1, 3.7.5).
use Rattle.std.specs.Prelude.{Bool, true, false, ℕ, List, [], Option, Some, None, slice_index_or, slice_set}
use Rattle.coll_kinds.specs.declared.ticket.Ticket.{Ticket}
use Rattle.coll_machine.specs.Common.{Machine, Event}
use Rattle.coll_complete.specs.declared.any.Any.{Any}
use Rattle.coll_complete.specs.declared.any.Any.TheVariants.{Undefined, Unfinished, At}
use Rattle.coll_complete.specs.Completing.{completion}
use Rattle.coll_complete.specs.Requests.{left_of}

abbrev pub is_undefined : Any → Bool
is_undefined Undefined = true
is_undefined Unfinished = false
is_undefined (At i o) = false

-- which request was completed
abbrev pub position_of : Any → Option ℕ
position_of Undefined = None
position_of Unfinished = None
position_of (At i o) = Some i

-- its completion
abbrev pub completion_any : ℕ → List (Option Ticket) → Any → List Event
completion_any rank list Undefined = []
completion_any rank list Unfinished = []
completion_any rank list (At i o) = completion rank (slice_index_or list i None) o

-- what the caller has of the list
abbrev pub left_at : Machine → Option ℕ → List (Option Ticket) → List (Option Ticket)
left_at m None list = list
left_at m (Some i) list = slice_set list i (left_of m (slice_index_or list i None))
