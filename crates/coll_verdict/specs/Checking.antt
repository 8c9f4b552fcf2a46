-- The tests that the checker makes, each as a function of what is kept of the ranks.
use Rattle.std.specs.Prelude.{ℕ, ◌-◌, ◌==◌, nat_lt, nat_le, Bool, true, false, not, ◌&&◌, ◌||◌, if◌then◌else◌, List, length, count_by, Option, Some}
use Rattle.std.specs.Prelude.{None, Vec, slice_get}
use Rattle.std.specs.List.{list_any, list_all, range_with_len}
use Rattle.std.specs.Global.{Global}
use Rattle.coll_kinds.specs.declared.signature.Signature.{Signature}
use Rattle.coll_kinds.specs.Common.{member_of, needs, same_signature}
use Rattle.coll_parser.specs.declared.command.Command.{Command}
use Rattle.coll_parser.specs.declared.issued_command.IssuedCommand.{IssuedCommand}
use Rattle.coll_parser.specs.declared.command.Command.TheVariants.{Post, Init, Start, Wait, Test, Free, WaitAny, WaitSome, WaitAll}
use Rattle.coll_verdict.specs.declared.known.KnownRequest.{KnownRequest}
use Rattle.coll_verdict.specs.declared.stood.Stood.{Stood}
use Rattle.coll_verdict.specs.declared.library.Library.{Library}
use Rattle.coll_verdict.specs.declared.library.Library.TheVariants.{Any, Hears}
use Rattle.coll_verdict.specs.declared.library.HeardRows.{HeardRows}
use Rattle.coll_verdict.specs.Stalls.{has_elements, makes_in}

-- ---- tables

-- what a row says of another member; nothing of one that it doesn't reach
abbrev pub said_in : Option (Vec Bool Global) → ℕ → Option Bool
said_in None other = None
said_in (Some row) other = slice_get row.items other

-- what a table says of a member and another
abbrev pub says : HeardRows → ℕ → ℕ → Option Bool
says table member other = said_in (slice_get table.rows.items member) other

abbrev pub is_yes : Option Bool → Bool
is_yes None = false
is_yes (Some b) = b

abbrev pub is_no : Option Bool → Bool
is_no None = false
is_no (Some b) = not b

abbrev pub says_yes : HeardRows → ℕ → ℕ → Bool
says_yes table member other = is_yes (says table member other)

abbrev pub says_no : HeardRows → ℕ → ℕ → Bool
says_no table member other = is_no (says table member other)

-- the table is that of the collective among so many members
abbrev pub is_of : Signature → ℕ → HeardRows → Bool
is_of sig n table = same_signature table.sig sig && (length table.rows.items == n)

-- ---- ranks that stay

-- the request isn't at that place, or was not started so often
abbrev pub late_at : ℕ → ℕ → ℕ → KnownRequest → Bool
late_at comm place starts x = if (x.comm == comm) && (x.place == place) then nat_lt x.starts starts else true

-- the rank has not come to the start that this request is in
abbrev pub is_late : KnownRequest → Option Stood → Bool
is_late own None = false
is_late own (Some peer) = list_all (late_at own.comm own.place own.starts) peer.requests.items

abbrev pub peer_is_late : List Stood → KnownRequest → Option ℕ → Bool
peer_is_late ranks own None = false
peer_is_late ranks own (Some peer) = is_late own (slice_get ranks peer)

-- how many members there are; 0 of a group that is too large to be one
abbrev pub size_in : List ℕ → ℕ
size_in group = if nat_le (length group) 64 then length group else 0

-- the request of a member waits for another, which is late
abbrev pub lacks_member : List Stood → List ℕ → KnownRequest → ℕ → ℕ → Bool
lacks_member ranks group own member other =
    needs own.sig (size_in group) member other && peer_is_late ranks own (slice_get group other)

-- or so by a table
abbrev pub lacks_told : List Stood → List ℕ → KnownRequest → ℕ → HeardRows → ℕ → Bool
lacks_told ranks group own member table other =
    says_yes table member other && peer_is_late ranks own (slice_get group other)

abbrev pub lacks_heard : List Stood → List ℕ → KnownRequest → ℕ → HeardRows → Bool
lacks_heard ranks group own member table =
    is_of own.sig (length group) table && list_any (lacks_told ranks group own member table) (range_with_len 0 (length group))

abbrev pub lacks_by : Library → List Stood → List ℕ → KnownRequest → ℕ → Bool
lacks_by Any ranks group own member =
    nat_lt member 64 && list_any (lacks_member ranks group own member) (range_with_len 0 (size_in group))
lacks_by (Hears tables) ranks group own member = list_any (lacks_heard ranks group own member) tables.items

abbrev pub lacks_some : Library → List Stood → List ℕ → KnownRequest → Option ℕ → Bool
lacks_some library ranks group own None = false
lacks_some library ranks group own (Some member) = lacks_by library ranks group own member

abbrev pub lacks_in : Library → List Stood → ℕ → KnownRequest → Option (Vec ℕ Global) → Bool
lacks_in library ranks rank own None = false
lacks_in library ranks rank own (Some group) = lacks_some library ranks group.items own (member_of rank group.items)

abbrev pub lacks : Library → List Stood → List (Vec ℕ Global) → ℕ → KnownRequest → Bool
lacks library ranks groups rank own = lacks_in library ranks rank own (slice_get groups own.comm)

-- the rank's request was started, and lacks some member
abbrev pub waits : Library → List Stood → List (Vec ℕ Global) → ℕ → KnownRequest → Bool
waits library ranks groups rank x = nat_lt 0 x.starts && lacks library ranks groups rank x

abbrev pub is_awaited : Library → List Stood → List (Vec ℕ Global) → ℕ → Option KnownRequest → Bool
is_awaited library ranks groups rank None = false
is_awaited library ranks groups rank (Some x) = waits library ranks groups rank x

-- or can't be Done for another reason: it is inactive, never started or waited for
abbrev pub cant_be_done : Library → List Stood → List (Vec ℕ Global) → ℕ → Option KnownRequest → Bool
cant_be_done library ranks groups rank None = false
cant_be_done library ranks groups rank (Some x) = x.starts == 0 || x.is_rested || lacks library ranks groups rank x

abbrev pub awaited_at : Library → List Stood → List (Vec ℕ Global) → Stood → ℕ → Bool
awaited_at library ranks groups own q = is_awaited library ranks groups own.rank (slice_get own.requests.items q)

abbrev pub cant_at : Library → List Stood → List (Vec ℕ Global) → Stood → ℕ → Bool
cant_at library ranks groups own q = cant_be_done library ranks groups own.rank (slice_get own.requests.items q)

-- the rank can't carry the command out
abbrev pub is_held_up : Library → List Stood → List (Vec ℕ Global) → Stood → Command → Bool
is_held_up library ranks groups own (Post comm sig given) = false
is_held_up library ranks groups own (Init comm sig) = false
is_held_up library ranks groups own (Start q given) = false
is_held_up library ranks groups own (Wait q) = awaited_at library ranks groups own q
is_held_up library ranks groups own (Test q) = false
is_held_up library ranks groups own (Free q) = false
is_held_up library ranks groups own (WaitAny qs) = list_any (awaited_at library ranks groups own) qs && list_all (cant_at library ranks groups own) qs
is_held_up library ranks groups own (WaitSome qs) = list_any (awaited_at library ranks groups own) qs && list_all (cant_at library ranks groups own) qs
is_held_up library ranks groups own (WaitAll qs) = list_any (awaited_at library ranks groups own) qs

-- the rank is at its end, or can't go on
abbrev pub stays : Library → List Stood → List (Vec ℕ Global) → Stood → Option Command → Bool
stays library ranks groups own None = true
stays library ranks groups own (Some c) = is_held_up library ranks groups own c

abbrev pub rank_stays : Library → List Stood → List (Vec ℕ Global) → Stood → Bool
rank_stays library ranks groups own = stays library ranks groups own (slice_get own.commands.items own.stand)

-- no rank goes on, and one isn't at its end
abbrev pub all_stay : Library → List Stood → List (Vec ℕ Global) → Bool
all_stay library ranks groups = list_all (rank_stays library ranks groups) ranks

abbrev pub is_short : Stood → Bool
is_short own = nat_lt own.stand (length own.commands.items)

-- ---- contributions

abbrev pub size_at : Option (Vec ℕ Global) → ℕ
size_at None = 0
size_at (Some group) = length group.items

abbrev pub gives_at : List (Vec ℕ Global) → Command → Bool
gives_at groups (Post comm sig given) = has_elements sig (size_at (slice_get groups comm))
gives_at groups (Init comm sig) = has_elements sig (size_at (slice_get groups comm))
gives_at groups (Start q given) = true
gives_at groups (Wait q) = true
gives_at groups (Test q) = true
gives_at groups (Free q) = true
gives_at groups (WaitAny qs) = true
gives_at groups (WaitSome qs) = true
gives_at groups (WaitAll qs) = true

abbrev pub issues_at : List (Vec ℕ Global) → IssuedCommand → Bool
issues_at groups issued = gives_at groups issued.command

-- an empty contribution is waited for where the library is known to
abbrev pub all_issue : Library → List (Vec ℕ Global) → List IssuedCommand → Bool
all_issue Any groups commands = list_all (issues_at groups) commands
all_issue (Hears tables) groups commands = true

-- ---- groups

abbrev pub is_member : ℕ → Option ℕ → Bool
is_member i None = false
is_member i (Some m) = m == i

abbrev pub is_seat : List ℕ → ℕ → Option ℕ → Bool
is_seat group i None = false
is_seat group i (Some peer) = is_member i (member_of peer group)

-- the member of that number is no earlier one
abbrev pub has_seat : List ℕ → ℕ → Bool
has_seat group i = is_seat group i (slice_get group i)

abbrev pub is_apart : Option (Vec ℕ Global) → Bool
is_apart None = false
is_apart (Some group) = list_all (has_seat group.items) (range_with_len 0 (length group.items))

abbrev pub apart_at : List (Vec ℕ Global) → ℕ → Bool
apart_at groups comm = is_apart (slice_get groups comm)

-- no rank is a member twice
abbrev pub are_apart : List (Vec ℕ Global) → Bool
are_apart groups = list_all (apart_at groups) (range_with_len 0 (length groups))

-- ---- ranks that pass

-- the request is at that place, and was started so often
abbrev pub has_begun : ℕ → ℕ → ℕ → KnownRequest → Bool
has_begun comm place starts x = (x.comm == comm) && (x.place == place) && nat_le starts x.starts

abbrev pub begun_in : KnownRequest → Option KnownRequest → Bool
begun_in own None = false
begun_in own (Some x) = has_begun own.comm own.place own.starts x

-- the request of that number
abbrev pub begun_as : KnownRequest → List KnownRequest → Option ℕ → Bool
begun_as own requests None = false
begun_as own requests (Some q) = begun_in own (slice_get requests q)

-- which is the rank's at that place of the communicator
abbrev pub begun_on : KnownRequest → List KnownRequest → Option (Vec ℕ Global) → Bool
begun_on own requests None = false
begun_on own requests (Some numbers) = begun_as own requests (slice_get numbers.items own.place)

abbrev pub has_come : KnownRequest → Stood → Bool
has_come own peer = begun_on own peer.requests.items (slice_get peer.numbers.items own.comm)

abbrev pub rank_has_begun : KnownRequest → Option Stood → Bool
rank_has_begun own None = false
rank_has_begun own (Some peer) = has_come own peer

abbrev pub peer_has_begun : List Stood → KnownRequest → ℕ → Bool
peer_has_begun ranks own peer = rank_has_begun own (slice_get ranks peer)

abbrev pub member_has_begun : List Stood → KnownRequest → Option ℕ → Bool
member_has_begun ranks own None = false
member_has_begun ranks own (Some peer) = peer_has_begun ranks own peer

-- the table says that a member doesn't wait for another, or that one has come
abbrev pub joined_told : List Stood → List ℕ → KnownRequest → ℕ → HeardRows → ℕ → Bool
joined_told ranks group own member table other =
    says_no table member other || member_has_begun ranks own (slice_get group other)

abbrev pub joined_heard : List Stood → List ℕ → KnownRequest → ℕ → HeardRows → Bool
joined_heard ranks group own member table =
    is_of own.sig (length group) table && list_all (joined_told ranks group own member table) (range_with_len 0 (length group))

abbrev pub joined_member : List HeardRows → List Stood → List ℕ → KnownRequest → Option ℕ → Bool
joined_member tables ranks group own None = false
joined_member tables ranks group own (Some member) = list_any (joined_heard ranks group own member) tables

abbrev pub joined_by : Library → List Stood → List ℕ → ℕ → KnownRequest → Bool
joined_by Any ranks group rank own = list_all (peer_has_begun ranks own) group
joined_by (Hears tables) ranks group rank own = joined_member tables.items ranks group own (member_of rank group)

abbrev pub all_have_begun : Library → List Stood → ℕ → KnownRequest → Option (Vec ℕ Global) → Bool
all_have_begun library ranks rank own None = false
all_have_begun library ranks rank own (Some group) = joined_by library ranks group.items rank own

abbrev pub is_joined : Library → List Stood → List (Vec ℕ Global) → ℕ → KnownRequest → Bool
is_joined library ranks groups rank own = all_have_begun library ranks rank own (slice_get groups own.comm)

abbrev pub is_at : ℕ → ℕ → Option KnownRequest → Bool
is_at comm place None = false
is_at comm place (Some x) = (x.comm == comm) && (x.place == place)

-- the request of that number is at that place
abbrev pub made_as : ℕ → ℕ → List KnownRequest → Option ℕ → Bool
made_as comm place requests None = false
made_as comm place requests (Some q) = is_at comm place (slice_get requests q)

abbrev pub made_on : ℕ → ℕ → List KnownRequest → Option (Vec ℕ Global) → Bool
made_on comm place requests None = false
made_on comm place requests (Some numbers) = made_as comm place requests (slice_get numbers.items place)

-- a rank has made its request at that place of a communicator,
abbrev pub has_made : ℕ → ℕ → Stood → Bool
has_made comm place peer = made_on comm place peer.requests.items (slice_get peer.numbers.items comm)

-- and the one before it, if there is one
abbrev pub has_made_before : ℕ → ℕ → Stood → Bool
has_made_before comm place peer = place == 0 || has_made comm (place - 1) peer

-- it has made its request at that place, or makes it next
abbrev pub is_come : ℕ → ℕ → Option Stood → Bool
is_come comm place None = false
is_come comm place (Some peer) =
    has_made comm place peer || (makes_in comm (slice_get peer.commands.items peer.stand) && has_made_before comm place peer)

abbrev pub peer_is_come : List Stood → ℕ → ℕ → ℕ → Bool
peer_is_come ranks comm place peer = is_come comm place (slice_get ranks peer)

abbrev pub are_come : List Stood → ℕ → ℕ → Option (Vec ℕ Global) → Bool
are_come ranks comm place None = false
are_come ranks comm place (Some group) = list_all (peer_is_come ranks comm place) group.items

-- each member has come to the request that the rank makes there next
abbrev pub all_come : List Stood → List (Vec ℕ Global) → Stood → ℕ → Bool
all_come ranks groups own comm = are_come ranks comm (count_by (λ x. x.comm == comm) own.requests.items) (slice_get groups comm)

-- no wait for the request goes on
abbrev pub is_free : Library → List Stood → List (Vec ℕ Global) → ℕ → Option KnownRequest → Bool
is_free library ranks groups rank None = false
is_free library ranks groups rank (Some x) = x.starts == 0 || x.is_rested || is_joined library ranks groups rank x

-- the request is active, and whom it awaits has come to its start
abbrev pub is_sure : Library → List Stood → List (Vec ℕ Global) → ℕ → Option KnownRequest → Bool
is_sure library ranks groups rank None = false
is_sure library ranks groups rank (Some x) = nat_lt 0 x.starts && not x.is_named && is_joined library ranks groups rank x

abbrev pub free_at : Library → List Stood → List (Vec ℕ Global) → Stood → ℕ → Bool
free_at library ranks groups own q = is_free library ranks groups own.rank (slice_get own.requests.items q)

abbrev pub sure_at : Library → List Stood → List (Vec ℕ Global) → Stood → ℕ → Bool
sure_at library ranks groups own q = is_sure library ranks groups own.rank (slice_get own.requests.items q)

-- an initialisation returns: with any library once all have come to it
abbrev pub init_returns : Library → List Stood → List (Vec ℕ Global) → Stood → ℕ → Bool
init_returns Any ranks groups own comm = all_come ranks groups own comm
init_returns (Hears tables) ranks groups own comm = true

-- the rank can carry the command out
abbrev pub can_pass : Library → List Stood → List (Vec ℕ Global) → Stood → Command → Bool
can_pass library ranks groups own (Post comm sig given) = true
can_pass library ranks groups own (Init comm sig) = init_returns library ranks groups own comm
can_pass library ranks groups own (Start q given) = true
can_pass library ranks groups own (Wait q) = free_at library ranks groups own q
can_pass library ranks groups own (Test q) = true
can_pass library ranks groups own (Free q) = true
can_pass library ranks groups own (WaitAny qs) = list_all (free_at library ranks groups own) qs || list_any (sure_at library ranks groups own) qs
can_pass library ranks groups own (WaitSome qs) = list_all (free_at library ranks groups own) qs || list_any (sure_at library ranks groups own) qs
can_pass library ranks groups own (WaitAll qs) = list_all (free_at library ranks groups own) qs

abbrev pub next_can_pass : Library → List Stood → List (Vec ℕ Global) → Stood → Option Command → Bool
next_can_pass library ranks groups own None = false
next_can_pass library ranks groups own (Some c) = can_pass library ranks groups own c

abbrev pub is_at_beginning : Stood → Bool
is_at_beginning own = own.stand == 0

abbrev pub is_at_end : Stood → Bool
is_at_end own = own.stand == length own.commands.items
