-- What holds of a standstill that is reported, by the commands of the script and by the requests that they make.
use Rattle.std.specs.Prelude.{◌≡◌, ℕ, ◌==◌, nat_lt, Bool, true, false, not, ◌&&◌, ◌||◌, if◌then◌else◌, List, length, Option, Some, None, Vec, slice_get}
use Rattle.std.specs.List.{list_any, list_all, range_with_len}
use Rattle.std.specs.Global.{Global}
use Rattle.std.specs.Str.{bytes_eq}
use Rattle.coll_kinds.specs.Common.{is_among, needs, kind_word}
use Rattle.coll_kinds.specs.declared.kind.Mode.{Mode}
use Rattle.coll_parser.specs.declared.command.Command.{Command}
use Rattle.coll_parser.specs.declared.command.Command.TheVariants.{Post, Init, Start, Wait, Test, Free}
use Rattle.coll_parser.specs.declared.command.Command.TheVariants.{WaitAny, WaitSome, WaitAll}
use Rattle.coll_parser.specs.declared.issued_command.IssuedCommand.{IssuedCommand}
use Rattle.coll_parser.specs.declared.request.Request.{Request}
use Rattle.coll_parser.specs.declared.request.Start as rust_start
use Rattle.coll_parser.specs.Code.{requests_view, rows_view}
use Rattle.coll_parser.specs.Histories.{History, is_persistent, starts}
use Rattle.coll_parser.specs.Requests.{requests}
use Rattle.coll_diagnosis.specs.declared.explanation.ShownStall.{ShownStall}
use Rattle.coll_diagnosis.specs.declared.lack.Lack.{Lack}
use Rattle.coll_diagnosis.specs.declared.pending.Pending.{Pending}
use Rattle.coll_diagnosis.specs.declared.stuck.Stuck.{Stuck}
use Rattle.coll_diagnosis.specs.declared.standstill.Standstill.{Standstill}

-- ---- commands

-- the command waits
abbrev pub waits : Command → Bool
waits (Post comm sig given) = false
waits (Init comm sig) = false
waits (Start q given) = false
waits (Wait q) = true
waits (Test q) = false
waits (Free q) = false
waits (WaitAny qs) = true
waits (WaitSome qs) = true
waits (WaitAll qs) = true

-- it waits for request q
abbrev pub awaits : ℕ → Command → Bool
awaits q (Post comm sig given) = false
awaits q (Init comm sig) = false
awaits q (Start other given) = false
awaits q (Wait other) = other == q
awaits q (Test other) = false
awaits q (Free other) = false
awaits q (WaitAny qs) = is_among q qs
awaits q (WaitSome qs) = is_among q qs
awaits q (WaitAll qs) = is_among q qs

-- it doesn't return before its request q is complete
abbrev pub completes : ℕ → Command → Bool
completes q (Post comm sig given) = false
completes q (Init comm sig) = false
completes q (Start other given) = false
completes q (Wait other) = other == q
completes q (Test other) = false
completes q (Free other) = false
completes q (WaitAny qs) = false
completes q (WaitSome qs) = false
completes q (WaitAll qs) = is_among q qs

-- the rank waits in that line
abbrev pub waits_in : ℕ → ℕ → IssuedCommand → Bool
waits_in rank line t = t.line == line && t.rank == rank && waits t.command

-- the rank waits for its request q in that line
abbrev pub awaits_in : ℕ → ℕ → ℕ → IssuedCommand → Bool
awaits_in rank line q t = t.line == line && t.rank == rank && awaits q t.command

-- after that line the rank starts its request q again, or a call of it doesn't return before the request is complete
abbrev pub ends_after : ℕ → ℕ → ℕ → IssuedCommand → Bool
ends_after rank line q t = nat_lt line t.line && t.rank == rank && (starts q t.command || completes q t.command)

-- ---- what is reported

-- there is such a start of a request, and that line makes it
abbrev pub is_start_in : Option rust_start.Start → ℕ → Bool
is_start_in None line = false
is_start_in (Some s) line = s.line == line

-- the lacking member's request stands at the place of the pending one, and the line makes the start that is lacked
abbrev pub peer_holds : Pending → Lack → Option Request → Bool
peer_holds pending lack None = false
peer_holds pending lack (Some r) =
    r.comm == pending.comm
    && r.place == pending.place
    && r.member == lack.member
    && is_start_in (slice_get r.starts.items pending.start) lack.line

abbrev pub theirs_hold : Pending → Lack → Option (Vec Request Global) → Bool
theirs_hold pending lack None = false
theirs_hold pending lack (Some theirs) = peer_holds pending lack (slice_get theirs.items lack.request)

-- the outcome of a member of this signature among n rests on the lacking one exactly where that is said
abbrev pub need_holds : Request → ℕ → Lack → Bool
need_holds own n lack = if needs own.sig n own.member lack.member then lack.is_needed else not lack.is_needed

-- the lacking rank starts what is lacked in a line after one in which it waits
abbrev pub lack_holds : List IssuedCommand → List (Vec Request Global) → ℕ → Request → Pending → Lack → Bool
lack_holds issued ranks n own pending lack =
    nat_lt lack.behind lack.line
    && list_any (waits_in lack.rank lack.behind) issued
    && theirs_hold pending lack (slice_get ranks lack.rank)
    && need_holds own n lack

-- how many members a communicator has: at most 64, as of each script
abbrev pub size_of : Option (Vec ℕ Global) → ℕ
size_of None = 0
size_of (Some group) = if nat_lt (length group.items) 64 then length group.items else 64

-- it is persistent exactly where that is said
abbrev pub mode_holds : Pending → Mode → Bool
mode_holds pending mode = if is_persistent mode then pending.is_persistent else not pending.is_persistent

-- the request has the communicator, the place, the start with its line, the kind and the mode that are reported
abbrev pub fits : Pending → Request → Bool
fits pending r =
    r.comm == pending.comm
    && r.place == pending.place
    && is_start_in (slice_get r.starts.items pending.start) pending.line
    && bytes_eq pending.kind.now (kind_word r.sig.kind)
    && mode_holds pending r.sig.mode

-- some members lack, and what is said of each is true
abbrev pub lacks_hold : List IssuedCommand → List (Vec Request Global) → List (Vec ℕ Global) → Pending → Request → Bool
lacks_hold issued ranks groups pending r =
    not (length pending.lacks.items == 0)
    && list_all (lack_holds issued ranks (size_of (slice_get groups pending.comm)) r pending) pending.lacks.items

-- the pending request is that of its number of the rank, and what is said of it is true
abbrev pub request_holds : List IssuedCommand → List (Vec Request Global) → List (Vec ℕ Global) → Pending → Option Request → Bool
request_holds issued ranks groups pending None = false
request_holds issued ranks groups pending (Some r) = fits pending r && lacks_hold issued ranks groups pending r

-- the call in that line waits for the request, which was started before; no line is that of the unwritten waitall after all lines, which
-- waits for a request that no line ends after its start
abbrev pub call_awaits : List IssuedCommand → ℕ → Option ℕ → Pending → Bool
call_awaits issued rank None pending = not (list_any (ends_after rank pending.line pending.request) issued)
call_awaits issued rank (Some line) pending =
    nat_lt pending.line line && list_any (awaits_in rank line pending.request) issued

abbrev pub pending_holds : List IssuedCommand → List (Vec Request Global) → List (Vec ℕ Global) → Stuck → List Request → Pending → Bool
pending_holds issued ranks groups stuck own pending =
    call_awaits issued stuck.rank stuck.line pending
    && request_holds issued ranks groups pending (slice_get own pending.request)

-- a rank that waits has requests that are pending, and what is said of each is true
abbrev pub own_hold : List IssuedCommand → List (Vec Request Global) → List (Vec ℕ Global) → Stuck → Option (Vec Request Global) → Bool
own_hold issued ranks groups stuck None = false
own_hold issued ranks groups stuck (Some own) = list_all (pending_holds issued ranks groups stuck own.items) stuck.requests.items

abbrev pub stuck_holds : List IssuedCommand → List (Vec Request Global) → List (Vec ℕ Global) → Stuck → Bool
stuck_holds issued ranks groups stuck =
    not (length stuck.requests.items == 0) && own_hold issued ranks groups stuck (slice_get ranks stuck.rank)

-- a rank of these is lacked
abbrev pub lacks_one : List ℕ → Pending → Bool
lacks_one circle pending = list_any (λ lack. list_any (λ rank. rank == lack.rank) circle) pending.lacks.items

-- it is that rank, and it waits for one of these
abbrev pub waits_for_one : List ℕ → ℕ → Stuck → Bool
waits_for_one circle rank stuck = stuck.rank == rank && list_any (lacks_one circle) stuck.requests.items

-- there are ranks that wait for one another: each waits for one of them
abbrev pub circle_holds : List ℕ → List Stuck → Bool
circle_holds circle stuck =
    not (length circle == 0) && list_all (λ rank. list_any (waits_for_one circle rank) stuck) circle

-- the rank is one of these that wait
abbrev pub is_stuck : List Stuck → ℕ → Bool
is_stuck stuck rank = list_any (λ s. s.rank == rank) stuck

-- the rank either waits or has ended
abbrev pub end_holds : List Stuck → List ℕ → ℕ → Bool
end_holds stuck ended rank = if is_stuck stuck rank then not (is_among rank ended) else is_among rank ended

-- each rank does
abbrev pub ends_hold : ℕ → List Stuck → List ℕ → Bool
ends_hold ranks stuck ended = list_all (end_holds stuck ended) (range_with_len 0 ranks)

-- those that wait are in the circle or after it
abbrev pub behind_holds : List ℕ → List ℕ → Stuck → Bool
behind_holds circle behind s = if is_among s.rank circle then not (is_among s.rank behind) else is_among s.rank behind

-- what is said of each rank is true, and some ranks wait for one another
abbrev pub standstill_holds : List IssuedCommand → List (Vec Request Global) → List (Vec ℕ Global) → Standstill → Bool
standstill_holds issued ranks groups standstill =
    list_all (stuck_holds issued ranks groups) standstill.stuck.items
    && circle_holds standstill.circle.items standstill.stuck.items
    && list_all (behind_holds standstill.circle.items standstill.behind.items) standstill.stuck.items
    && ends_hold (length ranks) standstill.stuck.items standstill.ended.items

-- it is true by the script's commands, communicators and requests
abbrev pub IsStandstill : History → Standstill → Type 0
IsStandstill h standstill =
    (ranks : List (Vec Request Global))
    × (groups : List (Vec ℕ Global))
    × (requests_view ranks ≡ requests h)
    × (rows_view groups ≡ h.groups)
    × (standstill_holds h.commands ranks groups standstill ≡ true)

-- what is shown of a stall: where the ranks stand, and some of them that wait for one another
pub record IsShown (h : History) (shown : ShownStall) : Type 0 where
  pub standing : IsStandstill h shown.standstill
  pub ring : circle_holds shown.ring.items shown.standstill.stuck.items ≡ true
