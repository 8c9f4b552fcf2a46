-- Worked rows, computed: two ranks on one communicator.
use Rattle.std.specs.Prelude.{◌≡◌, ◌==◌, if◌then◌else◌, ℕ, false, List, [], ◌∷◌, Some, None, refl}
use Rattle.coll_kinds.specs.declared.datatype.Datatype.TheVariants.{I32, U8, Byte}
use Rattle.coll_kinds.specs.declared.operation.Op.TheVariants.{Sum}
use Rattle.coll_kinds.specs.declared.kind.Kind.TheVariants.{Barrier, Bcast, Allgather, Allreduce}
use Rattle.coll_kinds.specs.declared.kind.Mode.TheVariants.{Once, Persistent}
use Rattle.coll_kinds.specs.declared.signature.Signature.{Signature}
use Rattle.coll_kinds.specs.declared.ticket.Ticket.{Ticket}
use Rattle.coll_kinds.specs.Refusals.{mismatch_at}
use Rattle.coll_kinds.specs.declared.refusal.Refusal.TheVariants.{BadComm, NotMember, BadSignature, BadLength, Stale, NotYours, Active, NotPersistent}
use Rattle.coll_kinds.specs.declared.refusal.Refusal.TheVariants.{PlacesUsed, StartsUsed, Full}
use Rattle.coll_kinds.specs.declared.refusal.SignatureFault.TheVariants.{Root, Mode as WrongMode, Group as WrongGroup}
use Rattle.coll_ops.specs.Values.{value}
use Rattle.coll_machine.specs.Settings.{Setting}
use Rattle.coll_machine.specs.declared.key.Key.{Key}
use Rattle.coll_machine.specs.States.{Request, State, nothing}
use Rattle.coll_machine.specs.Calls.{Planned, Post, Init, Start, Retire, Free}
use Rattle.coll_machine.specs.Refusals.{refusal}
use Rattle.coll_machine.specs.Changes.{new_request, created, started, holding, forgotten}
use Rattle.coll_machine.specs.Steps.{filled, Retires}
use Rattle.coll_machine.specs.Entries.{Entry, Posted, Inited, Started, Retired, Freed}
use Rattle.coll_machine.specs.Traces.{reserved, LegalTrace}
use Rattle.coll_machine.specs.Reports.{posts_of}
use Rattle.coll_machine.specs.Lents.{lent_bytes}

abbrev pub two_ranks : Setting
two_ranks = record { ranks = 2; groups = (0 ∷ 1 ∷ []) ∷ []; slots = 2; places = 1; wear = 2; starts = 2; trace = 12 }

abbrev pub ticket : ℕ → ℕ → Ticket
ticket slot generation = record { slot = slot; generation = generation }

-- start number n of place 0
abbrev pub key : ℕ → Key
key n = record { comm = 0; place = 0; start = n }

abbrev pub i32 : ℕ → List ℕ
i32 n = n ∷ 0 ∷ 0 ∷ 0 ∷ []

abbrev pub plan : Signature → ℕ → Planned
plan sig member = record { sig = sig; n = 2; member = member }

-- ---- a bcast from rank 0, which rank 1 posts when rank 0 has already completed it

abbrev pub bcast : Signature
bcast = record { kind = Bcast; mode = Once; root = 0; op = None; ty = I32; count = 1; each = None }

abbrev pub request_of : ℕ → Request
request_of rank = new_request rank 0 rank 0 Once

abbrev pub posted : State
posted = started (created nothing (ticket 0 1) (request_of 0) bcast) 0 (request_of 0) (i32 7)

abbrev pub left : State
left = holding posted 0 None

abbrev pub posted_late : State
posted_late = started (created left (ticket 0 2) (request_of 1) bcast) 0 (request_of 1) []

abbrev pub left_late : State
left_late = forgotten (holding posted_late 0 None) (key 0)

abbrev pub late_bcast : List Entry
late_bcast =
    Posted 0 (ticket 0 1) 0 0 bcast (i32 7)
    ∷ Retired 0 (ticket 0 1) 0 0 0 (i32 7)
    ∷ Posted 1 (ticket 0 2) 0 0 bcast []
    ∷ Retired 1 (ticket 0 2) 0 0 0 (i32 7)
    ∷ []

-- what the root gave is kept for the late member
late_member_gets_it : value bcast (filled bcast 2 (posted_late.given (key 0))) 1 ≡ i32 7
late_member_gets_it = refl

-- the slot's next request has another ticket, and the old one names nothing
first_ticket_is_stale : refusal two_ranks posted_late (Retire 0 (ticket 0 1)) ≡ Some Stale
first_ticket_is_stale = refl

next_ticket_is_live : refusal two_ranks posted_late (Retire 1 (ticket 0 2)) ≡ None
next_ticket_is_live = refl

another_ranks_ticket : refusal two_ranks posted_late (Retire 0 (ticket 0 2)) ≡ Some NotYours
another_ranks_ticket = refl

-- ---- refusals, in their order

-- an allreduce where rank 0 has posted a bcast, whatever its bytes
abbrev pub sum_once : Signature
sum_once = record { kind = Allreduce; mode = Once; root = 0; op = Some Sum; ty = I32; count = 1; each = None }

mismatch_names_the_first : refusal two_ranks posted (Post 1 0 (plan sum_once 1) []) ≡ Some (mismatch_at 0 0 bcast)
mismatch_names_the_first = refl

-- of three members the lowest two have world ranks 2 and 3; the second and the third have posted the bcast
abbrev pub three_ranks : Setting
three_ranks = record two_ranks { ranks = 4; groups = (2 ∷ 3 ∷ 1 ∷ []) ∷ [] }

abbrev pub two_have_posted : State
two_have_posted = record nothing { posts = λ comm member. if member == 0 then [] else bcast ∷ [] }

mismatch_names_a_world_rank :
    refusal three_ranks two_have_posted (Post 2 0 (record { sig = sum_once; n = 3; member = 0 }) (i32 1))
    ≡ Some (mismatch_at 0 3 bcast)
mismatch_names_a_world_rank = refl

no_such_communicator : refusal two_ranks posted (Post 5 1 (plan bcast 1) []) ≡ Some (BadComm 1)
no_such_communicator = refl

no_such_member : refusal two_ranks posted (Post 5 0 (plan bcast 1) []) ≡ Some (NotMember 5)
no_such_member = refl

bad_root : refusal two_ranks posted (Init 1 0 (plan (record bcast { root = 2 }) 1)) ≡ Some (BadSignature Root)
bad_root = refl

once_in_an_init : refusal two_ranks posted (Init 1 0 (plan sum_once 0)) ≡ Some (BadSignature WrongMode)
once_in_an_init = refl

another_members_plan : refusal two_ranks posted (Post 1 0 (plan sum_once 0) []) ≡ Some (BadSignature WrongGroup)
another_members_plan = refl

-- rank 0 has used its one place; a wrong length comes after that
places_come_first : refusal two_ranks posted (Post 0 0 (plan bcast 0) []) ≡ Some PlacesUsed
places_come_first = refl

only_the_root_gives : refusal two_ranks posted (Post 1 0 (plan bcast 1) (i32 7)) ≡ Some (BadLength 0 4)
only_the_root_gives = refl

accepted : refusal two_ranks posted (Post 1 0 (plan bcast 1) []) ≡ None
accepted = refl

once_requests_start_once : refusal two_ranks posted (Start 0 (ticket 0 1) (i32 7)) ≡ Some NotPersistent
once_requests_start_once = refl

-- both slots have had their last generation
abbrev pub worn : State
worn = record nothing { generation = λ slot. 2 }

no_slot_is_left : refusal two_ranks worn (Post 0 0 (plan bcast 0) (i32 7)) ≡ Some Full
no_slot_is_left = refl

-- ---- a persistent allgather: rank 0 starts it twice while rank 1 still holds start 0

abbrev pub gather : Signature
gather = record { kind = Allgather; mode = Persistent; root = 0; op = None; ty = U8; count = 1; each = None }

-- rank r's request, Idle after that many starts
abbrev pub idle : ℕ → ℕ → Request
idle r starts = record { rank = r; comm = 0; member = r; place = 0; mode = Persistent; starts = starts; active = false }

abbrev pub inited_one : State
inited_one = created nothing (ticket 0 1) (idle 0 0) gather

abbrev pub inited : State
inited = created inited_one (ticket 1 1) (idle 1 0) gather

abbrev pub started_one : State
started_one = started inited 0 (idle 0 0) (1 ∷ [])

abbrev pub started_both : State
started_both = started started_one 1 (idle 1 0) (10 ∷ [])

-- rank 0 completes start 0, and goes on
abbrev pub left_one : State
left_one = holding started_both 0 (Some (idle 0 1))

abbrev pub ahead : State
ahead = started left_one 0 (idle 0 1) (2 ∷ [])

-- rank 1 completes start 0, which is over then, and goes on
abbrev pub left_both : State
left_both = forgotten (holding ahead 1 (Some (idle 1 1))) (key 0)

abbrev pub level : State
level = started left_both 1 (idle 1 1) (20 ∷ [])

abbrev pub ended_one : State
ended_one = holding level 0 (Some (idle 0 2))

abbrev pub ended : State
ended = forgotten (holding ended_one 1 (Some (idle 1 2))) (key 1)

abbrev pub freed_one : State
freed_one = holding ended 0 None

abbrev pub freed : State
freed = holding freed_one 1 None

abbrev pub two_starts : List Entry
two_starts =
    Inited 0 (ticket 0 1) 0 0 gather
    ∷ Inited 1 (ticket 1 1) 0 0 gather
    ∷ Started 0 (ticket 0 1) 0 (1 ∷ [])
    ∷ Started 1 (ticket 1 1) 0 (10 ∷ [])
    ∷ Retired 0 (ticket 0 1) 0 0 0 (1 ∷ 10 ∷ [])
    ∷ Started 0 (ticket 0 1) 1 (2 ∷ [])
    ∷ Retired 1 (ticket 1 1) 0 0 0 (1 ∷ 10 ∷ [])
    ∷ Started 1 (ticket 1 1) 1 (20 ∷ [])
    ∷ Retired 0 (ticket 0 1) 0 0 1 (2 ∷ 20 ∷ [])
    ∷ Retired 1 (ticket 1 1) 0 0 1 (2 ∷ 20 ∷ [])
    ∷ Freed 0 (ticket 0 1)
    ∷ Freed 1 (ticket 1 1)
    ∷ []

-- each start has its own contributions
given_at_start_0 : ahead.given (key 0) 0 ≡ Some (1 ∷ [])
given_at_start_0 = refl

given_at_start_1 : ahead.given (key 1) 0 ≡ Some (2 ∷ [])
given_at_start_1 = refl

rank_1_still_gets_start_0 : value gather (filled gather 2 (ahead.given (key 0))) 1 ≡ 1 ∷ 10 ∷ []
rank_1_still_gets_start_0 = refl

both_get_start_1 : value gather (filled gather 2 (level.given (key 1))) 0 ≡ 2 ∷ 20 ∷ []
both_get_start_1 = refl

start_while_active : refusal two_ranks ahead (Start 1 (ticket 1 1) (9 ∷ [])) ≡ Some Active
start_while_active = refl

free_while_active : refusal two_ranks ahead (Free 1 (ticket 1 1)) ≡ Some Active
free_while_active = refl

another_ranks_start : refusal two_ranks inited (Start 1 (ticket 0 1) (9 ∷ [])) ≡ Some NotYours
another_ranks_start = refl

short_start : refusal two_ranks inited (Start 1 (ticket 1 1) []) ≡ Some (BadLength 1 0)
short_start = refl

third_start : refusal two_ranks ended (Start 1 (ticket 1 1) (9 ∷ [])) ≡ Some StartsUsed
third_start = refl

freed_ticket_is_stale : refusal two_ranks freed (Start 1 (ticket 1 1) (9 ∷ [])) ≡ Some Stale
freed_ticket_is_stale = refl

-- one byte given and two got for each active request; an Idle one lends nothing
lent_by_none : lent_bytes two_ranks inited ≡ 0
lent_by_none = refl

lent_by_two : lent_bytes two_ranks ahead ≡ 6
lent_by_two = refl

lent_by_one : lent_bytes two_ranks left_one ≡ 3
lent_by_one = refl

-- two frees are to come, and two completions
reserved_entries : reserved two_ranks ahead ≡ 4
reserved_entries = refl

posts_of_rank_1 : posts_of 1 two_starts
    ≡ Inited 1 (ticket 1 1) 0 0 gather ∷ Started 1 (ticket 1 1) 0 (10 ∷ []) ∷ Started 1 (ticket 1 1) 1 (20 ∷ []) ∷ []
posts_of_rank_1 = refl

-- ---- both are legal from the opening on, and lead where nothing is live and nothing is kept

abbrev pub RowsAreLegal : Type 0
RowsAreLegal = LegalTrace two_ranks late_bcast left_late × LegalTrace two_ranks two_starts freed

-- ---- a barrier that rank 0 alone has posted

abbrev pub barrier : Signature
barrier = record { kind = Barrier; mode = Once; root = 0; op = None; ty = Byte; count = 0; each = None }

abbrev pub waiting : State
waiting = started (created nothing (ticket 0 1) (request_of 0) barrier) 0 (request_of 0) []

-- it can't be completed, with whatever outcome
abbrev pub BarrierWaits : Type 0
BarrierWaits = (comm place start : ℕ) (bytes : List ℕ) (u : State)
    → Retires two_ranks waiting 0 (ticket 0 1) comm place start bytes u → ⊥
