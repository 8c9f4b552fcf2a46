-- Worked rows, computed. Two ranks have two communicators, and each posts a barrier on both, the one in the other's order. Rank 1 posts on
-- communicator 1 in line 8, waits for that in line 9, and posts on communicator 0 in line 10. Rank 0 posts on communicator 0 in line 4 and
-- waits for that in line 5. What is said of its wait is refused where a part of it is another one.
use denote.Ref.{Bor}
use Rattle.std.specs.Prelude.{◌≡◌, ℕ, Bool, true, false, List, [], ◌∷◌, Option, Some, None, Vec, refl, slice_get}
use Rattle.std.specs.Global.{Global}
use Rattle.std.proofs.Common.{ap}
use Rattle.coll_kinds.specs.declared.datatype.Datatype.TheVariants.{Byte}
use Rattle.coll_kinds.specs.declared.kind.Kind.TheVariants.{Barrier}
use Rattle.coll_kinds.specs.declared.kind.Mode.TheVariants.{Once}
use Rattle.coll_kinds.specs.declared.signature.Signature.{Signature}
use Rattle.coll_parser.specs.declared.command.Command.TheVariants.{Post, Wait}
use Rattle.coll_parser.specs.declared.issued_command.IssuedCommand.{IssuedCommand}
use Rattle.coll_parser.specs.declared.request.Request.{Request}
use Rattle.coll_parser.specs.declared.request.Start.{Start}
use Rattle.coll_diagnosis.specs.declared.lack.Lack.{Lack}
use Rattle.coll_diagnosis.specs.declared.pending.Pending.{Pending}
use Rattle.coll_diagnosis.specs.declared.stuck.Stuck.{Stuck}
use Rattle.coll_diagnosis.specs.Standing.{call_awaits, circle_holds, ends_hold, is_start_in, lack_holds, need_holds, peer_holds, request_holds}

abbrev barrier : Signature
barrier = record { kind = Barrier; mode = Once; root = 0; op = None; ty = Byte; count = 0; each = None }

abbrev crossed : List IssuedCommand
crossed =
    record { line = 4; rank = 0; command = Post 0 barrier [] }
    ∷ record { line = 5; rank = 0; command = Wait 0 }
    ∷ record { line = 6; rank = 0; command = Post 1 barrier [] }
    ∷ record { line = 8; rank = 1; command = Post 1 barrier [] }
    ∷ record { line = 9; rank = 1; command = Wait 0 }
    ∷ record { line = 10; rank = 1; command = Post 0 barrier [] }
    ∷ []

-- where a request's starts, what they give and a list of members lie is left open
abbrev Starts : Type 0
Starts = Vec Start Global

-- a post in that line
abbrev posted_in : ℕ → Bor (List ℕ) → List Start
posted_in line given = record { line = line; given = given } ∷ []

abbrev of_rank_0 : Starts → List Request
of_rank_0 starts =
    record { line = 4; comm = 0; place = 0; member = 0; sig = barrier; starts = starts }
    ∷ record { line = 6; comm = 1; place = 0; member = 0; sig = barrier; starts = starts }
    ∷ []

abbrev of_rank_1 : Starts → List Request
of_rank_1 starts =
    record { line = 8; comm = 1; place = 0; member = 1; sig = barrier; starts = starts }
    ∷ record { line = 10; comm = 0; place = 0; member = 1; sig = barrier; starts = starts }
    ∷ []

abbrev its_first : List Request → Option Request
its_first [] = None
its_first (r ∷ rest) = Some r

abbrev its_second : List Request → Option Request
its_second [] = None
its_second (r ∷ rest) = its_first rest

-- rank 0 waits for request 0, of that line, on that communicator and at that place
abbrev waiting : Bor (List ℕ) → Vec Lack Global → ℕ → ℕ → ℕ → Bool → Pending
waiting kind lacks line comm place mode =
    record { request = 0; line = line; comm = comm; place = place; start = 0; kind = kind; is_persistent = mode; lacks = lacks }

-- for rank 1, which would start its request 1 in that line
abbrev lacking : ℕ → ℕ → ℕ → Bool → Lack
lacking member line behind needed = record { rank = 1; member = member; request = 1; is_needed = needed; line = line; behind = behind }

-- ---- true

awaited : (kind : Bor (List ℕ)) (lacks : Vec Lack Global) → call_awaits crossed 0 (Some 5) (waiting kind lacks 4 0 0 false) ≡ true
awaited kind lacks = refl

-- after its last line rank 1 waits for what it posted there
awaited_at_the_end : (kind : Bor (List ℕ)) (lacks : Vec Lack Global)
    → call_awaits crossed 1 None (record (waiting kind lacks 10 0 0 false) { request = 1 }) ≡ true
awaited_at_the_end kind lacks = refl

the_line : (given : Bor (List ℕ)) → is_start_in (slice_get (posted_in 4 given) 0) 4 ≡ true
the_line given = refl

peer : (starts : Starts) (given kind : Bor (List ℕ)) (lacks : Vec Lack Global)
    → starts.items ≡ posted_in 10 given
    → peer_holds (waiting kind lacks 4 0 0 false) (lacking 1 10 9 true) (its_second (of_rank_1 starts)) ≡ true
peer starts given kind lacks post = ap (λ (items : List Start). is_start_in (slice_get items 0) 10) post

-- ---- false

-- another line of the call, in which the rank doesn't wait
another_call : (kind : Bor (List ℕ)) (lacks : Vec Lack Global) → call_awaits crossed 0 (Some 6) (waiting kind lacks 4 0 0 false) ≡ false
another_call kind lacks = refl

-- the unwritten waitall, though the rank waits in line 5
no_call : (kind : Bor (List ℕ)) (lacks : Vec Lack Global) → call_awaits crossed 0 None (waiting kind lacks 4 0 0 false) ≡ false
no_call kind lacks = refl

-- a request that the call doesn't name
another_request : (kind : Bor (List ℕ)) (lacks : Vec Lack Global)
    → call_awaits crossed 0 (Some 5) (record (waiting kind lacks 4 0 0 false) { request = 1 }) ≡ false
another_request kind lacks = refl

-- another line of a post, or another number of the start
another_line : (given : Bor (List ℕ)) → is_start_in (slice_get (posted_in 4 given) 0) 6 ≡ false
another_line given = refl

another_start : (given : Bor (List ℕ)) → is_start_in (slice_get (posted_in 4 given) 1) 4 ≡ false
another_start given = refl

-- another communicator or place of the request

another_communicator : (starts : Starts) (kind : Bor (List ℕ)) (lacks : Vec Lack Global)
    → request_holds crossed [] [] (waiting kind lacks 4 1 0 false) (its_first (of_rank_0 starts)) ≡ false
another_communicator starts kind lacks = refl

another_place : (starts : Starts) (kind : Bor (List ℕ)) (lacks : Vec Lack Global)
    → request_holds crossed [] [] (waiting kind lacks 4 0 1 false) (its_first (of_rank_0 starts)) ≡ false
another_place starts kind lacks = refl

-- a line of the lacking rank that starts its request at another place, or another member
another_peer : (starts : Starts) (given kind : Bor (List ℕ)) (lacks : Vec Lack Global)
    → starts.items ≡ posted_in 10 given
    → peer_holds (waiting kind lacks 4 0 0 false) (lacking 1 8 9 true) (its_second (of_rank_1 starts)) ≡ false
another_peer starts given kind lacks post = ap (λ (items : List Start). is_start_in (slice_get items 0) 8) post

another_member : (starts : Starts) (kind : Bor (List ℕ)) (lacks : Vec Lack Global)
    → peer_holds (waiting kind lacks 4 0 0 false) (lacking 0 10 9 true) (its_second (of_rank_1 starts)) ≡ false
another_member starts kind lacks = refl

-- a member of a barrier on which nothing is said to rest
nothing_rests : (starts : Starts)
    → need_holds (record { line = 4; comm = 0; place = 0; member = 0; sig = barrier; starts = starts }) 2 (lacking 1 10 9 false) ≡ false
nothing_rests starts = refl

-- a line of the lacking rank before that in which it waits
too_early : (own : Request) (ranks : List (Vec Request Global)) (pending : Pending) → lack_holds crossed ranks 2 own pending (lacking 1 8 9 true) ≡ false
too_early own ranks pending = refl

-- nobody waits for another one, and no ring is shown
no_ring : (stuck : List Stuck) → circle_holds [] stuck ≡ false
no_ring stuck = refl

-- a rank that is neither said to wait nor to have ended
nowhere : ends_hold 1 [] [] ≡ false
nowhere = refl
