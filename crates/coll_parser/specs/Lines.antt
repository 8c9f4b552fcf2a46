-- The lines of the format: what each kind of line says, and which rules it keeps, in the order they are judged in.
use Rattle.std.specs.Prelude.{ℕ, zero, suc, ◌-◌, ◌/◌, ◌^◌, ◌==◌, nat_le, nat_lt, ◌&&◌, ◌||◌, pos, if◌then◌else◌}
use Rattle.std.specs.Prelude.{List, [], ◌∷◌, ◌++◌, length, replicate, flat_map, slice_get, slice_index, codes}
use Rattle.std.specs.Prelude.{Option, Some, None, is_none, is_some, option_and_then, unwrap_or, Result, Ok, Err, ok_or}
use Rattle.std.specs.List.{list_all, range_with_len}
use Rattle.std.specs.Str.{bytes_eq}
use Rattle.coll_kinds.specs.declared.datatype.Datatype.{Datatype}
use Rattle.coll_kinds.specs.declared.datatype.Datatype.TheVariants.{Byte}
use Rattle.coll_kinds.specs.declared.kind.Kind.{Kind}
use Rattle.coll_kinds.specs.declared.kind.Mode.{Mode}
use Rattle.coll_kinds.specs.declared.kind.Mode.TheVariants.{Once, Persistent}
use Rattle.coll_kinds.specs.declared.operation.Op.{Op}
use Rattle.coll_kinds.specs.declared.signature.Signature.{Signature}
use Rattle.coll_kinds.specs.Common.{whole, width, element_bytes, value_of, given_len, has_root, has_operation, is_barrier, has_counts, broken}
use Rattle.coll_kinds.specs.Common.{max_ranks, kind_of, operation_of, datatype_of, member_of}
use Rattle.coll_kinds.specs.Texts.{number_of}
use Rattle.coll_parser.specs.declared.cause.Cause.{Cause}
use Rattle.coll_parser.specs.declared.cause.Cause.TheVariants.{MissingRanks, UnknownCommand, OutOfPlace, BadWords}
use Rattle.coll_parser.specs.declared.cause.Cause.TheVariants.{BadNumber, BadRank, BadCommunicator, BadSignature}
use Rattle.coll_parser.specs.declared.cause.Cause.TheVariants.{WrongValueCount, BadValue, UnknownRequest, NamedTwice}
use Rattle.coll_parser.specs.declared.cause.Cause.TheVariants.{NotStartable, TooManyRequests}
use Rattle.coll_parser.specs.declared.command.Command.{Command}
use Rattle.coll_parser.specs.declared.command.Command.TheVariants.{Post, Init, Start, Wait, Test, Free}
use Rattle.coll_parser.specs.declared.command.Command.TheVariants.{WaitAny, WaitSome, WaitAll}
use Rattle.coll_parser.specs.Reading.{Reading, and_then, ◌>>=◌, give, fault, known, must, word, end, numbers}
use Rattle.coll_parser.specs.Histories.{History, group_of, Posting, postings, issued_by, is_startable, total}

-- ---- words

-- a number from low on and below limit
abbrev pub number_within : ℕ → ℕ → List ℕ → Option ℕ
number_within low limit w = option_and_then (λ n. if nat_le low n && nat_lt n limit then Some n else None) (number_of w)

-- R, of n ranks
abbrev pub rank_in : ℕ → List ℕ → Result ℕ Cause
rank_in n w = ok_or (number_within 0 n w) BadRank

-- Q, of that many requests
abbrev pub request_in : ℕ → List ℕ → Result ℕ Cause
request_in count w =
    and_then (ok_or (number_of w) BadNumber) (λ q. if nat_lt q count then Ok q else Err UnknownRequest)

-- a word that is read so
abbrev pub next : {A : Type 0} → (List ℕ → Result A Cause) → Reading A
next read = word >>= λ w words. and_then (read w) (λ x. Ok (x, words))

-- ---- post, init and start

-- C: a communicator of which the rank is a member
abbrev pub communicator : List (List ℕ) → ℕ → Reading ℕ
communicator groups rank = do
  comm ← next (λ w. ok_or (number_of w) BadNumber)
  group ← known (slice_get groups comm) BadCommunicator
  member ← known (member_of rank group) BadRank
  give comm

-- OP
abbrev pub some_operation : List ℕ → Result (Option Op) Cause
some_operation w = and_then (ok_or (operation_of w) BadSignature) (λ op. Ok (Some op))

-- COUNT
abbrev pub count_in : List ℕ → Result ℕ Cause
count_in w = ok_or (number_within 0 (2 ^ 32) w) BadSignature

-- that many counts, after those read before
abbrev pub counts_from : List ℕ → ℕ → Reading (List ℕ)
counts_from before zero = give before
counts_from before (suc k) = next count_in >>= λ c. counts_from (before ++ c ∷ []) k

-- C0 .. C(n-1): a count for each of n members, and 0 after them
abbrev pub counts : ℕ → Reading (List ℕ)
counts n = counts_from [] n >>= λ read. give (read ++ replicate (max_ranks - n) 0)

-- those counts, as a field
abbrev pub some_counts : ℕ → Reading (Option (List ℕ))
some_counts n = counts n >>= λ all. give (Some all)

-- what stands after the word of a kind, for n members; a barrier has type byte and count 0, and where each member's
-- elements are counted there is no count of all
unfoldable pub fields : Mode → ℕ → Kind → Reading Signature
fields mode n kind = do
  root ← if has_root kind then next (λ w. ok_or (number_within 0 256 w) BadSignature) else give 0
  op ← if has_operation kind then next some_operation else give None
  ty ← if is_barrier kind then give Byte else next (λ w. ok_or (datatype_of w) BadSignature)
  count ← if is_barrier kind || has_counts kind then give 0 else next count_in
  each ← if has_counts kind then some_counts n else give None
  give (record { kind = kind; mode = mode; root = root; op = op; ty = ty; count = count; each = each })

-- SIG: a signature that n members may use
unfoldable pub signature : Mode → ℕ → Reading Signature
signature mode n = do
  kind ← next (λ w. ok_or (kind_of w) BadSignature)
  sig ← fields mode n kind
  checked ← must (is_none (broken sig n)) BadSignature
  give sig

-- the bytes that a rank gives to a request with that signature
abbrev pub due : List (List ℕ) → ℕ → ℕ → Signature → ℕ
due groups rank comm sig =
    let group = group_of groups comm in
    given_len sig (length group) (unwrap_or (member_of rank group) 0)

-- the words after the colon, which may be left out where none are due
abbrev pub colon : ℕ → Reading (List (List ℕ))
colon count [] = if count == 0 then Ok ([], []) else Err BadWords
colon count (w ∷ words) = if bytes_eq w (codes ":") then Ok (words, []) else Err BadWords

-- : v ..: the bytes of that many values
unfoldable pub values : ℕ → Datatype → Reading (List ℕ)
values count ty = do
  words ← colon count
  counted ← must (length words == count) WrongValueCount
  valued ← must (list_all (λ w. is_some (value_of ty w)) words) BadValue
  give (flat_map (λ w. element_bytes ty (unwrap_or (value_of ty w) (whole (pos 0)))) words)

-- a job has at most 4,096 requests
abbrev pub room : History → Reading (Unit {0})
room h = must (nat_lt (total h.commands) 4096) TooManyRequests

-- post C SIG : v ..: a once collective, posted with the rank's contribution
unfoldable pub post : History → ℕ → Reading Command
post h rank = do
  comm ← communicator h.groups rank
  sig ← signature Once (length (group_of h.groups comm))
  given ← values (due h.groups rank comm sig / width sig.ty) sig.ty
  fits ← room h
  give (Post comm sig given)

-- init C SIG: a persistent request, initialised
unfoldable pub init : History → ℕ → Reading Command
init h rank = do
  comm ← communicator h.groups rank
  sig ← signature Persistent (length (group_of h.groups comm))
  ended ← end
  fits ← room h
  give (Init comm sig)

-- what the rank whose section it is has posted
abbrev pub made : History → ℕ → List Posting
made h rank = postings (issued_by rank h.commands)

-- Q, which a start or a free may name
unfoldable pub startable : History → ℕ → Reading (ℕ × Posting)
startable h rank = do
  q ← next (request_in (length (made h rank)))
  p ← known (slice_get (made h rank) q) UnknownRequest
  fits ← must (is_startable q p (issued_by rank h.commands)) NotStartable
  give (q, p)

-- start Q : v ..: a persistent request, started with the rank's contribution
unfoldable pub start : History → ℕ → Reading Command
start h rank = do
  it ← startable h rank
  given ← values (due h.groups rank it.1.comm it.1.sig / width it.1.sig.ty) it.1.sig.ty
  give (Start it.0 given)

-- free Q
unfoldable pub free : History → ℕ → Reading Command
free h rank = startable h rank >>= λ it. end >>= λ ended. give (Free it.0)

-- ---- waits and tests

-- Q, and no more words
abbrev pub one : History → ℕ → Reading ℕ
one h rank = next (request_in (length (made h rank))) >>= λ q. end >>= λ ended. give q

-- Q ..: at least one request, and none twice
abbrev pub some : History → ℕ → Reading (List ℕ)
some h rank = numbers (request_in (length (made h rank))) NamedTwice

-- `waitall` without words names all requests of the section so far
abbrev pub all : History → ℕ → Reading (List ℕ)
all h rank [] = Ok (range_with_len 0 (length (made h rank)), [])
all h rank (w ∷ words) = some h rank (w ∷ words)

-- wait Q
abbrev pub wait : History → ℕ → Reading Command
wait h rank = one h rank >>= λ q. give (Wait q)

-- test Q
abbrev pub test : History → ℕ → Reading Command
test h rank = one h rank >>= λ q. give (Test q)

-- waitany Q ..
abbrev pub waitany : History → ℕ → Reading Command
waitany h rank = some h rank >>= λ qs. give (WaitAny qs)

-- waitsome Q ..
abbrev pub waitsome : History → ℕ → Reading Command
waitsome h rank = some h rank >>= λ qs. give (WaitSome qs)

-- waitall Q .., or waitall
abbrev pub waitall : History → ℕ → Reading Command
waitall h rank = all h rank >>= λ qs. give (WaitAll qs)

-- what a command's first word stands for
abbrev pub command_of : List ℕ → Option (History → ℕ → Reading Command)
command_of w =
    if bytes_eq w (codes "post") then Some post
    else (if bytes_eq w (codes "init") then Some init
    else (if bytes_eq w (codes "start") then Some start
    else (if bytes_eq w (codes "wait") then Some wait
    else (if bytes_eq w (codes "test") then Some test
    else (if bytes_eq w (codes "free") then Some free
    else (if bytes_eq w (codes "waitany") then Some waitany
    else (if bytes_eq w (codes "waitsome") then Some waitsome
    else (if bytes_eq w (codes "waitall") then Some waitall
    else None))))))))

-- ---- lines, each by the history that begins with it and gives the one after it

-- ranks N: the job has 1 to 64 ranks, and communicator 0 has them all as its members
unfoldable pub ranks : History → Reading History
ranks h = do
  n ← next (λ w. ok_or (number_within 1 65 w) BadNumber)
  ended ← end
  give (record h { ranks = Some n; groups = range_with_len 0 n ∷ [] })

-- comm R ..: a further communicator of these ranks, before the first section; a job has at most 16
unfoldable pub comm : ℕ → History → Reading History
comm n h = do
  early ← must (is_none h.opened) OutOfPlace
  few ← must (nat_lt (length h.groups) 16) BadCommunicator
  group ← numbers (rank_in n) BadRank
  give (record h { groups = h.groups ++ group ∷ [] })

-- rank R: the section of a rank begins
unfoldable pub section : ℕ → History → Reading History
section n h = do
  rank ← next (rank_in n)
  ended ← end
  give (record h { opened = Some rank })

-- the history with one more command, of that line and rank
abbrev pub issue : ℕ → ℕ → Command → History → History
issue number rank command h = record h { commands = h.commands ++ record { line = number; rank = rank; command = command } ∷ [] }

-- a command, in the line of that number
unfoldable pub command : ℕ → List ℕ → History → Reading History
command number first h = do
  read ← known (command_of first) UnknownCommand
  rank ← known h.opened OutOfPlace
  issued ← read h rank
  give (issue number rank issued h)

-- a line after the first one that says anything, where there are n ranks
abbrev pub later : ℕ → ℕ → List ℕ → History → Reading History
later number n first h =
    if bytes_eq first (codes "ranks") then fault OutOfPlace
    else (if bytes_eq first (codes "comm") then comm n h
    else (if bytes_eq first (codes "rank") then section n h
    else command number first h))

-- a line that says something: the first such line gives the number of ranks
abbrev pub line_by : Option ℕ → ℕ → List ℕ → History → Reading History
line_by None number first h = if bytes_eq first (codes "ranks") then ranks h else fault MissingRanks
line_by (Some n) number first h = later number n first h

-- a line without words says nothing, nor does one whose first word begins with `#`
unfoldable pub line : ℕ → History → List (List ℕ) → Result History Cause
line number h [] = Ok h
line number h (first ∷ words) =
    if slice_index first 0 == 35 then Ok h else and_then (line_by h.ranks number first h words) (λ read. Ok read.0)
