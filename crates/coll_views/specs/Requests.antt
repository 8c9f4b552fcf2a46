-- The requests of a trace: what it says of each, and which of them an entry is about.
use Rattle.std.specs.Prelude.{ℕ, ◌==◌, Bool, ◌&&◌, List, [], length, map, filter_map, slice_get, slice_index_or, Option, Some, None, unwrap_or}
use Rattle.std.specs.Prelude.{option_and_then, if◌then◌else◌}
use Rattle.std.specs.List.{position, range_with_len}
use Rattle.std.specs.Option.{option_map}
use Rattle.coll_kinds.specs.declared.signature.Signature.{Signature}
use Rattle.coll_kinds.specs.declared.ticket.Ticket.{Ticket}
use Rattle.coll_plans.specs.Plans.{family}
use Rattle.coll_machine.specs.Entries.{Entry, Posted, Inited, Started, Retired, Freed}
use Rattle.coll_report.specs.Traces.{caller}
use Rattle.coll_views.specs.declared.request.TracedRequest.{TracedRequest}
use Rattle.coll_views.specs.declared.request.NumberedRequest.{NumberedRequest}
use Rattle.coll_views.specs.Works.{work_in}

-- the request that an entry makes or names
abbrev pub ticket_of : Entry → Ticket
ticket_of (Posted rank t comm place sig bytes) = t
ticket_of (Inited rank t comm place sig) = t
ticket_of (Started rank t start bytes) = t
ticket_of (Retired rank t comm place start bytes) = t
ticket_of (Freed rank t) = t

-- the rank's member number in a group
abbrev pub member_at : List ℕ → ℕ → ℕ
member_at group rank = unwrap_or (position (λ one. one == rank) group) 0

-- a request of a member of a group; its work is that of the member's schedule in the family of the signature
abbrev pub request_in : List ℕ → ℕ → Ticket → ℕ → ℕ → Signature → TracedRequest
request_in group rank t comm place sig = record {
  ticket = t;
  comm = comm;
  place = place;
  sig = sig;
  members = length group;
  member = member_at group rank;
  work = work_in (family sig (length group) (member_at group rank)).rounds;
}

-- a request on a communicator
abbrev pub request_on : List (List ℕ) → ℕ → Ticket → ℕ → ℕ → Signature → TracedRequest
request_on groups rank t comm place sig = request_in (slice_index_or groups comm []) rank t comm place sig

-- the request that the rank makes by an entry
abbrev pub made_by : List (List ℕ) → ℕ → Entry → Option TracedRequest
made_by groups by (Posted rank t comm place sig bytes) = if rank == by then Some (request_on groups by t comm place sig) else None
made_by groups by (Inited rank t comm place sig) = if rank == by then Some (request_on groups by t comm place sig) else None
made_by groups by (Started rank t start bytes) = None
made_by groups by (Retired rank t comm place start bytes) = None
made_by groups by (Freed rank t) = None

-- those that it makes, in their order
abbrev pub requests_by : List (List ℕ) → List Entry → ℕ → List TracedRequest
requests_by groups es by = filter_map (made_by groups by) es

-- those of each rank
abbrev pub all_requests : ℕ → List (List ℕ) → List Entry → List (List TracedRequest)
all_requests ranks groups es = map (requests_by groups es) (range_with_len 0 ranks)

-- whether a request has the ticket
abbrev pub names : Ticket → TracedRequest → Bool
names t p = p.ticket.slot == t.slot && p.ticket.generation == t.generation

-- the one of a rank's requests that has a number
abbrev pub named_at : List TracedRequest → ℕ → Option NumberedRequest
named_at own k = option_map (λ p. record { number = k; request = p }) (slice_get own k)

-- the one that has the ticket
abbrev pub own_named : Ticket → List TracedRequest → Option NumberedRequest
own_named t own = option_and_then (named_at own) (position (names t) own)

abbrev pub named_in : List (List TracedRequest) → ℕ → Ticket → Option NumberedRequest
named_in all rank t = option_and_then (own_named t) (slice_get all rank)

-- the request of an entry, among those that its rank made
abbrev pub named : List (List TracedRequest) → Entry → Option NumberedRequest
named all e = named_in all (caller e) (ticket_of e)
