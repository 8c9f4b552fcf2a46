-- Worked rows, computed.
use Rattle.std.specs.Prelude.{◌≡◌, ℕ, List, [], ◌∷◌, ◌++◌, map, replicate, codes, Option, Some, None, Result, Ok, Err}
use Rattle.std.specs.Prelude.{refl}
use Rattle.coll_kinds.specs.declared.datatype.Datatype.TheVariants.{I8}
use Rattle.coll_kinds.specs.declared.operation.Op.TheVariants.{Sum}
use Rattle.coll_kinds.specs.declared.kind.Kind.TheVariants.{Allreduce}
use Rattle.coll_kinds.specs.declared.kind.Mode.TheVariants.{Once, Persistent}
use Rattle.coll_kinds.specs.declared.signature.Signature.{Signature}
use Rattle.coll_parser.specs.declared.cause.Cause.{Cause}
use Rattle.coll_parser.specs.declared.cause.Cause.TheVariants.{MissingRanks, UnknownCommand, OutOfPlace, BadWords}
use Rattle.coll_parser.specs.declared.cause.Cause.TheVariants.{BadNumber, BadRank, BadCommunicator, BadSignature}
use Rattle.coll_parser.specs.declared.cause.Cause.TheVariants.{WrongValueCount, BadValue, UnknownRequest, NamedTwice}
use Rattle.coll_parser.specs.declared.cause.Cause.TheVariants.{NotStartable}
use Rattle.coll_parser.specs.declared.fault.Fault.{Fault}
use Rattle.coll_parser.specs.declared.command.Command.TheVariants.{Post, Init, Start, Wait, WaitAny, WaitAll}
use Rattle.coll_parser.specs.declared.issued_command.IssuedCommand.{IssuedCommand}
use Rattle.coll_parser.specs.Histories.{History, beginning}
use Rattle.coll_parser.specs.Lines.{fields, signature, values, post, init, startable, start, free}
use Rattle.coll_parser.specs.Lines.{ranks, comm, section, command, line}
use Rattle.coll_parser.specs.Cutting.{lines_of}
use Rattle.coll_parser.specs.Judging.{judged}
use Rattle.coll_parser.specs.Requests.{requests_of}
use Rattle.coll_parser.specs.Writing.{text_of}

-- the line and the cause of a fault, if there is one
abbrev fault_of : Result History Fault → Option (ℕ × Cause)
fault_of (Ok h) = None
fault_of (Err fault) = Some (fault.line, fault.cause)

-- the fault of a text of these lines, if it has one
abbrev fault_in : List (List ℕ) → Option (ℕ × Cause)
fault_in lines = fault_of (judged 1 beginning lines)

abbrev fault : ℕ → Cause → Option (ℕ × Cause)
fault number cause = Some (number, cause)

-- a line, and the fault that a text has which ends in it, if it has one
abbrev Row : Type 0
Row = List ℕ × Option (ℕ × Cause)

-- after these lines each row's line has the fault that stands beside it
abbrev HaveFaults : List (List ℕ) → List Row → Type 0
HaveFaults before rows = map (λ row. fault_in (before ++ row.0 ∷ [])) rows ≡ map (λ row. row.1) rows

-- ---- the first lines

abbrev first_lines_rows : List Row
first_lines_rows =
    (codes "rank 0", fault 1 MissingRanks)
    ∷ (codes "comm 0", fault 1 MissingRanks)
    ∷ (codes "ranks1", fault 1 MissingRanks)
    ∷ (codes "ranks", fault 1 BadWords)
    ∷ (codes "ranks x", fault 1 BadNumber)
    ∷ (codes "ranks 0", fault 1 BadNumber)
    ∷ (codes "ranks 65", fault 1 BadNumber)
    ∷ (codes "ranks 1 1", fault 1 BadWords)
    ∷ (codes "ranks 64", None)
    ∷ (codes "# x", None)
    ∷ []

first_lines : HaveFaults [] first_lines_rows
unfolding line ranks comm section command post init start startable free signature fields values
first_lines = refl

abbrev second_lines_rows : List Row
second_lines_rows =
    (codes "ranks 2", fault 2 OutOfPlace)
    ∷ (codes "foo", fault 2 UnknownCommand)
    ∷ (codes "post x", fault 2 OutOfPlace)
    ∷ (codes "waitall", fault 2 OutOfPlace)
    ∷ (codes "rank", fault 2 BadWords)
    ∷ (codes "rank 2", fault 2 BadRank)
    ∷ (codes "rank x", fault 2 BadRank)
    ∷ (codes "rank 0 0", fault 2 BadWords)
    ∷ (codes "rank 01", None)
    ∷ []

second_lines : HaveFaults (codes "ranks 2" ∷ []) second_lines_rows
unfolding line ranks comm section command post init start startable free signature fields values
second_lines = refl

-- ---- communicators

-- `twice` compares numbers
abbrev members_rows : List Row
members_rows =
    (codes "comm", fault 2 BadWords)
    ∷ (codes "comm 2", fault 2 BadRank)
    ∷ (codes "comm x", fault 2 BadRank)
    ∷ (codes "comm 0 :", fault 2 BadRank)
    ∷ (codes "comm 0 00", fault 2 BadRank)
    ∷ (codes "comm 1 0", None)
    ∷ []

members : HaveFaults (codes "ranks 2" ∷ []) members_rows
unfolding line ranks comm section command post init start startable free signature fields values
members = refl

comm_after_rank : fault_in (codes "ranks 1" ∷ codes "rank 0" ∷ codes "comm 7" ∷ []) ≡ fault 3 OutOfPlace
unfolding line ranks comm section command post init start startable free signature fields values
comm_after_rank = refl

-- beside communicator 0 there are fifteen more
sixteenth_comm :
    fault_in (codes "ranks 1" ∷ replicate 15 (codes "comm 0") ++ codes "comm" ∷ []) ≡ fault 17 BadCommunicator
unfolding line ranks comm section command post init start startable free signature fields values
sixteenth_comm = refl

rank_outside_comm :
    fault_in (codes "ranks 2" ∷ codes "comm 0" ∷ codes "rank 1" ∷ codes "post 1 barrier" ∷ []) ≡ fault 4 BadRank
unfolding line ranks comm section command post init start startable free signature fields values
rank_outside_comm = refl

-- rank 0 is member 1 of communicator 1, and so its root is 1
abbrev roots_rows : List Row
roots_rows =
    (codes "post 1 bcast 1 i8 1 : 5", None)
    ∷ (codes "post 1 bcast 0 i8 1 : 5", fault 4 WrongValueCount)
    ∷ (codes "post 1 bcast 0 i8 1", None)
    ∷ []

roots : HaveFaults (codes "ranks 2" ∷ codes "comm 1 0" ∷ codes "rank 0" ∷ []) roots_rows
unfolding line ranks comm section command post init start startable free signature fields values
roots = refl

-- ---- requests that are made

-- a post, from its left
abbrev posts_rows : List Row
posts_rows =
    (codes "post", fault 3 BadWords)
    ∷ (codes "post x", fault 3 BadNumber)
    ∷ (codes "post 1 foo", fault 3 BadCommunicator)
    ∷ (codes "post 18446744073709551616 foo", fault 3 BadCommunicator)
    ∷ (codes "post 000000000000000000000 foo", fault 3 BadNumber)
    ∷ (codes "post 0", fault 3 BadWords)
    ∷ (codes "post 0 foo", fault 3 BadSignature)
    ∷ (codes "post 0 allreduce sum", fault 3 BadWords)
    ∷ (codes "post 0 allreduce sum byte 1 : 1", fault 3 BadSignature)
    ∷ (codes "post 0 bcast 255", fault 3 BadWords)
    ∷ (codes "post 0 bcast 256", fault 3 BadSignature)
    ∷ (codes "post 0 bcast 1 i8 1 x", fault 3 BadSignature)
    ∷ (codes "post 0 bcast 0 i8 1", fault 3 BadWords)
    ∷ (codes "post 0 bcast 0 i8 1 :", fault 3 WrongValueCount)
    ∷ (codes "post 0 bcast 0 i8 0 x", fault 3 BadWords)
    ∷ (codes "post 0 bcast 0 i8 0 :", None)
    ∷ (codes "post 0 allreduce sum i8 2 : 1", fault 3 WrongValueCount)
    ∷ (codes "post 0 allreduce sum i8 1 : 128", fault 3 BadValue)
    ∷ (codes "post 0 bcast 0 i8 65537", fault 3 BadSignature)
    ∷ []

posts : HaveFaults (codes "ranks 1" ∷ codes "rank 0" ∷ []) posts_rows
unfolding line ranks comm section command post init start startable free signature fields values
posts = refl

-- pairs have a comma between their numbers, and operations of their own
abbrev pairs_rows : List Row
pairs_rows =
    (codes "post 0 bcast 0 2int 2 : 7,2 -3,04", None)
    ∷ (codes "post 0 bcast 0 2int 2 : 7,2", fault 3 WrongValueCount)
    ∷ (codes "post 0 bcast 0 2int 1 : 7", fault 3 BadValue)
    ∷ (codes "post 0 bcast 0 2int 1 : 7,", fault 3 BadValue)
    ∷ (codes "post 0 bcast 0 2int 1 : 7,2,1", fault 3 BadValue)
    ∷ (codes "post 0 bcast 0 i32 1 : 7,2", fault 3 BadValue)
    ∷ (codes "post 0 allreduce maxloc 2int 1 : 7,0", None)
    ∷ (codes "post 0 allreduce sum 2int 1 : 7,0", fault 3 BadSignature)
    ∷ (codes "post 0 allreduce minloc i32 1 : 7", fault 3 BadSignature)
    ∷ []

pairs : HaveFaults (codes "ranks 1" ∷ codes "rank 0" ∷ []) pairs_rows
unfolding line ranks comm section command post init start startable free signature fields values
pairs = refl

-- each of three members has a count
abbrev counts_rows : List Row
counts_rows =
    (codes "post 0 allgatherv", fault 3 BadWords)
    ∷ (codes "post 0 allgatherv u8 1 1", fault 3 BadWords)
    ∷ (codes "post 0 allgatherv u8 1 1 : 7", fault 3 BadSignature)
    ∷ (codes "post 0 allgatherv u8 1 x", fault 3 BadSignature)
    ∷ (codes "post 0 allgatherv u8 1 1 4294967296", fault 3 BadSignature)
    ∷ (codes "post 0 allgatherv u8 1 1 65537 : 7", fault 3 BadSignature)
    ∷ (codes "post 0 allgatherv u8 1 1 1 1 : 7", fault 3 BadWords)
    ∷ (codes "post 0 allgatherv u8 2 1 1 : 7", fault 3 WrongValueCount)
    ∷ (codes "post 0 allgatherv u8 2 0 1 : 7 8", None)
    ∷ (codes "post 0 allgatherv u8 0 9 9", None)
    ∷ []

counts : HaveFaults (codes "ranks 3" ∷ codes "rank 0" ∷ []) counts_rows
unfolding line ranks comm section command post init start startable free signature fields values
counts = refl

-- an `init` ends with its signature
abbrev inits_rows : List Row
inits_rows =
    (codes "init 0 barrier", None)
    ∷ (codes "init 0 barrier :", fault 3 BadWords)
    ∷ (codes "init 0 bcast 1 i8 1 :", fault 3 BadSignature)
    ∷ []

inits : HaveFaults (codes "ranks 1" ∷ codes "rank 0" ∷ []) inits_rows
unfolding line ranks comm section command post init start startable free signature fields values
inits = refl

-- ---- requests that are named

-- a request is named from its left, and `twice` is judged at the second word
abbrev named_rows : List Row
named_rows =
    (codes "wait", fault 4 BadWords)
    ∷ (codes "wait x", fault 4 BadNumber)
    ∷ (codes "wait 1 x", fault 4 UnknownRequest)
    ∷ (codes "wait 0 0", fault 4 BadWords)
    ∷ (codes "test 0", None)
    ∷ (codes "test 1", fault 4 UnknownRequest)
    ∷ (codes "waitany", fault 4 BadWords)
    ∷ (codes "waitsome", fault 4 BadWords)
    ∷ (codes "waitany 0 0 x", fault 4 NamedTwice)
    ∷ (codes "waitsome 0 00", fault 4 NamedTwice)
    ∷ (codes "waitsome 0 1", fault 4 UnknownRequest)
    ∷ (codes "waitall", None)
    ∷ (codes "waitall 0", None)
    ∷ (codes "waitall 0 0", fault 4 NamedTwice)
    ∷ (codes "start", fault 4 BadWords)
    ∷ (codes "start 1 x", fault 4 UnknownRequest)
    ∷ (codes "start 0 x", fault 4 NotStartable)
    ∷ (codes "free :", fault 4 BadNumber)
    ∷ (codes "free 0", fault 4 NotStartable)
    ∷ []

named : HaveFaults (codes "ranks 1" ∷ codes "rank 0" ∷ codes "post 0 barrier" ∷ []) named_rows
unfolding line ranks comm section command post init start startable free signature fields values
named = refl

request_named_twice :
    fault_in (codes "ranks 1" ∷ codes "rank 0" ∷ codes "post 0 barrier" ∷ codes "waitany 0 0" ∷ []) ≡ fault 4 NamedTwice
unfolding line ranks comm section command post init start startable free signature fields values
request_named_twice = refl

-- a start of a request that was started, and these commands after it
abbrev started_and : List (List ℕ) → Option (ℕ × Cause)
started_and lines = fault_in (codes "ranks 1" ∷ codes "rank 0" ∷ codes "init 0 barrier" ∷ codes "start 0" ∷ lines)

-- a wait that names the request makes it surely inactive, and nothing else does
abbrev start_while_active_rows : List (List (List ℕ) × Option (ℕ × Cause))
start_while_active_rows =
    (codes "start 0" ∷ [], fault 5 NotStartable)
    ∷ (codes "test 0" ∷ codes "start 0" ∷ [], fault 6 NotStartable)
    ∷ (codes "waitany 0" ∷ codes "start 0" ∷ [], fault 6 NotStartable)
    ∷ (codes "waitsome 0" ∷ codes "free 0" ∷ [], fault 6 NotStartable)
    ∷ (codes "wait 0" ∷ codes "start 0 :" ∷ [], None)
    ∷ (codes "waitall 0" ∷ codes "free 0" ∷ [], None)
    ∷ (codes "waitall" ∷ codes "start 0" ∷ [], None)
    ∷ (codes "waitall" ∷ codes "start 0" ∷ codes "start 0" ∷ [], fault 7 NotStartable)
    ∷ (codes "wait 0" ∷ codes "free 0" ∷ codes "start 0" ∷ [], fault 7 NotStartable)
    ∷ (codes "wait 0" ∷ codes "free 0" ∷ codes "wait 0" ∷ [], None)
    ∷ []

start_while_active :
    map (λ row. started_and row.0) start_while_active_rows ≡ map (λ row. row.1) start_while_active_rows
unfolding line ranks comm section command post init start startable free signature fields values
start_while_active = refl

-- ---- what lines say

abbrev sum : Signature
sum = record { kind = Allreduce; mode = Persistent; root = 0; op = Some Sum; ty = I8; count = 2; each = None }

abbrev told_lines : List (List ℕ)
told_lines =
    codes "ranks 2"
    ∷ codes "comm 1"
    ∷ codes "rank 1"
    ∷ []
    ∷ codes "init 1 allreduce sum i8 2"
    ∷ codes "waitall"
    ∷ codes "start 0 : 5 -1"
    ∷ codes "waitany 0"
    ∷ []

-- lists stay, and a bare `waitall` names the requests so far
told : judged 1 beginning told_lines
    ≡ Ok (record {
      ranks = Some 2;
      groups = (0 ∷ 1 ∷ []) ∷ (1 ∷ []) ∷ [];
      opened = Some 1;
      commands = record { line = 5; rank = 1; command = Init 1 sum }
          ∷ record { line = 6; rank = 1; command = WaitAll (0 ∷ []) }
          ∷ record { line = 7; rank = 1; command = Start 0 (5 ∷ 255 ∷ []) }
          ∷ record { line = 8; rank = 1; command = WaitAny (0 ∷ []) }
          ∷ [];
    })
unfolding line ranks comm section command post init start startable free signature fields values
told = refl

-- ---- requests

-- commands of rank 1, and one of rank 0 among them
abbrev asked : List IssuedCommand
asked =
    record { line = 5; rank = 1; command = Init 1 sum }
    ∷ record { line = 6; rank = 0; command = Init 0 sum }
    ∷ record { line = 7; rank = 1; command = Post 0 (record sum { mode = Once }) (1 ∷ 2 ∷ []) }
    ∷ record { line = 8; rank = 1; command = Init 1 sum }
    ∷ record { line = 9; rank = 1; command = Start 0 (5 ∷ 255 ∷ []) }
    ∷ record { line = 10; rank = 1; command = Wait 0 }
    ∷ record { line = 11; rank = 1; command = Start 0 (6 ∷ 7 ∷ []) }
    ∷ []

-- places are counted on each communicator by itself, and each start has its line; a post is a start in its own line
requested : requests_of ((0 ∷ 1 ∷ []) ∷ (1 ∷ []) ∷ []) 1 asked
    ≡ record { line = 5; comm = 1; place = 0; member = 0; sig = sum; starts = (5 ∷ 255 ∷ []) ∷ (6 ∷ 7 ∷ []) ∷ []; lines = 9 ∷ 11 ∷ [] }
    ∷ record { line = 7; comm = 0; place = 0; member = 1; sig = record sum { mode = Once }; starts = (1 ∷ 2 ∷ []) ∷ []; lines = 7 ∷ [] }
    ∷ record { line = 8; comm = 1; place = 1; member = 0; sig = sum; starts = []; lines = [] }
    ∷ []
requested = refl

-- ---- what is accepted could have been said

-- with blanks, a comment and leading zeros, and as it is written
abbrev said : History
said = record {
  ranks = Some 2;
  groups = (0 ∷ 1 ∷ []) ∷ [];
  opened = Some 1;
  commands = record { line = 4; rank = 1; command = Init 0 sum }
      ∷ record { line = 5; rank = 1; command = Start 0 (5 ∷ 255 ∷ []) }
      ∷ [];
}

abbrev lines_otherwise : List (List ℕ)
lines_otherwise =
    codes " ranks 02"
    ∷ codes "# two"
    ∷ codes "rank  01 "
    ∷ codes "init 00 allreduce sum i8 02"
    ∷ codes "start 0 : 05 -01"
    ∷ []

written_otherwise : judged 1 beginning lines_otherwise ≡ Ok said
unfolding line ranks comm section command post init start startable free signature fields values
written_otherwise = refl

abbrev words_said : List (List (List ℕ))
words_said =
    (codes "ranks" ∷ codes "2" ∷ []) ∷ [] ∷ (codes "rank" ∷ codes "1" ∷ [])
    ∷ (codes "init" ∷ codes "0" ∷ codes "allreduce" ∷ codes "sum" ∷ codes "i8" ∷ codes "2" ∷ [])
    ∷ (codes "start" ∷ codes "0" ∷ codes ":" ∷ codes "5" ∷ codes "-1" ∷ []) ∷ []

written_so : judged 1 beginning (lines_of (text_of words_said)) ≡ Ok said
unfolding line ranks comm section command post init start startable free signature fields values
written_so = refl
