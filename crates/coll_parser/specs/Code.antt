-- What the code's functions owe to the definitions.
use Rattle.std.specs.Prelude.{◌≡◌, ℕ, ◌<◌, ◌≤◌, nat_lt, pos, false, if◌then◌else◌, Some, IfSome, is_some, unwrap_or}
use Rattle.std.specs.Prelude.{List, [], ◌∷◌, ◌++◌, ◌==◌, length, map, flat_map, count_by, slice_get, slice_index, Vec, Result, Ok, Err}
use Rattle.std.specs.Global.{Global}
use Rattle.std.specs.List.{list_any, list_all, AllByRecursion, range_with_len}
use denote.Ref.{Bor}
use Rattle.coll_parser.specs.declared.cause.Cause.{Cause}
use Rattle.coll_parser.specs.declared.command.Command.{Command}
use Rattle.coll_parser.specs.declared.command.Command.TheVariants.{Start, Wait, Free, WaitAll}
use Rattle.coll_parser.specs.declared.fault.Fault.{Fault}
use Rattle.coll_parser.specs.declared.fault.LineFault.{LineFault}
use Rattle.coll_parser.specs.declared.fault.LineFault.TheVariants as lines
use Rattle.coll_parser.specs.declared.fault.ScriptFault.{ScriptFault}
use Rattle.coll_parser.specs.declared.fault.ScriptFault.TheVariants as script
use Rattle.coll_parser.specs.declared.reader.Reader.{Reader}
use Rattle.coll_parser.specs.declared.request.Request as rust_request
use Rattle.coll_parser.specs.declared.request.Start as rust_start
use Rattle.coll_parser.specs.declared.section.SectionEntry.{SectionEntry}
use Rattle.coll_parser.specs.declared.section.Section.{Section}
use Rattle.coll_parser.specs.Histories.{History, Posting, postings, issued_by, may_be_active, frees, total}
use Rattle.coll_parser.specs.Requests.{Request}
use Rattle.coll_parser.specs.Reading.{Reading}
use Rattle.coll_parser.specs.Lines.{post, init, start, wait, test, free, waitany, waitsome, waitall}
use Rattle.coll_parser.specs.declared.cause.Cause.TheVariants.{BadValue}
use Rattle.coll_parser.specs.declared.verb.Verb.{Verb}
use Rattle.coll_parser.specs.declared.verb.Verb.TheVariants as verb
use Rattle.coll_kinds.specs.declared.datatype.Datatype.{Datatype}
use Rattle.coll_kinds.specs.Common.{whole, element_bytes, value_of}
use Rattle.coll_parser.specs.Sound.{IsHistory}

-- ---- views: what lies in memory, without where it lies

-- the bytes of borrowed words
abbrev pub texts : List (Bor (List ℕ)) → List (List ℕ)
texts words = map (λ word. word.now) words

-- the bytes of owned rows
abbrev pub rows_view : List (Vec ℕ Global) → List (List ℕ)
rows_view rows = map (λ row. row.items) rows

-- what starts give
abbrev pub givens : List rust_start.Start → List (List ℕ)
givens starts = map (λ s. s.given.now) starts

-- a request as the definitions have it
abbrev pub request_view : rust_request.Request → Request
request_view p =
    record {
      line = p.line;
      comm = p.comm;
      place = p.place;
      member = p.member;
      sig = p.sig;
      starts =
          givens p.starts.items;
      lines = map (λ s. s.line) p.starts.items;
    }

-- the requests of each rank
abbrev pub requests_view : List (Vec rust_request.Request Global) → List (List Request)
requests_view ranks = map (λ requests. map request_view requests.items) ranks

-- what was posted, of a request that is kept
abbrev pub posting_view : SectionEntry → Posting
posting_view p = record { comm = p.comm; sig = p.sig }

-- the history that a reader has read: its counters and stamps are left out
abbrev pub history_of : Reader → History
history_of r = record { ranks = r.ranks; groups = rows_view r.groups.items; opened = r.opened; commands = r.commands.items }

-- ---- what was read

-- what a function returned, seen by view, is what the definition gives
abbrev pub Finds : {X Y : Type 0} → (X → Y) → Result X Cause → Result Y Cause → Type 0
Finds view (Ok x) given = given ≡ Ok (view x)
Finds view (Err cause) given = given ≡ Err cause

-- what a step returned, seen by view, and the words that it left are what the definition reads
abbrev pub Reads :
    {X Y : Type 0}
    → (X → Y)
    → Result X Cause
    → List (List ℕ)
    → Result (Y × List (List ℕ)) Cause
    → Type 0
Reads view (Ok x) left read = read ≡ Ok (view x, left)
Reads view (Err cause) left read = read ≡ Err cause

-- what a function returned is what a rule gives that reads no words, whatever words follow
abbrev pub Asks : Result (Unit {0}) Cause → Reading (Unit {0}) → Type 0
Asks (Ok done) asked = (words : List (List ℕ)) → asked words ≡ Ok (tt, words)
Asks (Err cause) asked = (words : List (List ℕ)) → asked words ≡ Err cause

-- a line's fault is the definition's, unless memory ran out
abbrev pub FailsSo : {Y : Type 0} → LineFault → Result Y Cause → Type 0
FailsSo (lines.Broken cause) read = read ≡ Err cause
FailsSo lines.NoMemory read = Unit {0}

-- as `Reads`, unless memory ran out
abbrev pub ReadsSo :
    {X Y : Type 0}
    → (X → Y)
    → Result X LineFault
    → List (List ℕ)
    → Result (Y × List (List ℕ)) Cause
    → Type 0
ReadsSo view (Ok x) left read = read ≡ Ok (view x, left)
ReadsSo view (Err fault) left read = FailsSo fault read

-- as `Finds`, unless memory ran out
abbrev pub FindsSo : {X Y : Type 0} → (X → Y) → Result X LineFault → Result Y Cause → Type 0
FindsSo view (Ok x) given = given ≡ Ok (view x)
FindsSo view (Err fault) given = FailsSo fault given

-- the bytes of the values that words name, where each word names one of the type
abbrev pub valued : Datatype → List (List ℕ) → Result (List ℕ) Cause
valued ty words =
    if list_all (λ w. is_some (value_of ty w)) words
    then Ok (flat_map (λ w. element_bytes ty (unwrap_or (value_of ty w) (whole (pos 0)))) words)
    else Err BadValue

-- what a line's first word has its rank read
abbrev pub read_by : Verb → History → ℕ → Reading Command
read_by verb.Post = post
read_by verb.Init = init
read_by verb.Start = start
read_by verb.Wait = wait
read_by verb.Test = test
read_by verb.Free = free
read_by verb.WaitAny = waitany
read_by verb.WaitSome = waitsome
read_by verb.WaitAll = waitall

-- a text's fault is the definition's, unless memory ran out
abbrev pub FailsText : {Y : Type 0} → ScriptFault → Result Y Fault → Type 0
FailsText (script.Text fault) given = given ≡ Err fault
FailsText script.NoMemory given = Unit {0}

-- as `FindsSo`, for a whole text
abbrev pub GivesText : {X Y : Type 0} → (X → Y) → Result X ScriptFault → Result Y Fault → Type 0
GivesText view (Ok x) given = given ≡ Ok (view x)
GivesText view (Err fault) given = FailsText fault given

-- a fault of a line, as one of the text
abbrev pub fault_in_line : ℕ → LineFault → ScriptFault
fault_in_line number (lines.Broken cause) = script.Text (record { line = number; cause = cause })
fault_in_line number lines.NoMemory = script.NoMemory

-- the history of a job of n ranks that has said nothing else
abbrev pub begun : ℕ → History → History
begun n h = record h { ranks = Some n; groups = range_with_len 0 n ∷ [] }

-- ---- places

-- the communicator and the place of a request
abbrev pub spot : Request → ℕ × ℕ
spot p = (p.comm, p.place)

-- the place that these leave on a communicator
abbrev pub places_left : ℕ → List (ℕ × ℕ) → ℕ
places_left comm spots = count_by (λ s. s.0 == comm) spots

-- each of these stands at the place that those before it leave
abbrev pub ArePlacedAfter : List (ℕ × ℕ) → List (ℕ × ℕ) → Type 0
ArePlacedAfter before [] = Unit {0}
ArePlacedAfter before (s ∷ spots) = (s.1 ≡ places_left s.0 before) × ArePlacedAfter (before ++ s ∷ []) spots

-- and so do these requests of a rank
abbrev pub ArePlaced : List Request → Type 0
ArePlaced requests = ArePlacedAfter [] (map spot requests)

-- ---- counters

-- the requests that a command names are among that many
abbrev pub IsNamed : ℕ → Command → Type 0
IsNamed count (Start q given) = q < count
IsNamed count (Wait q) = q < count
IsNamed count (Free q) = q < count
IsNamed count (WaitAll qs) = AllByRecursion (λ q. q < count) qs
IsNamed count command = Unit {0}

-- what is kept of request q of a section, before the line of that number is read
pub record IsKeptOf (next waited : ℕ) (commands : List Command) (q : ℕ) (p : SectionEntry) : Type 0 where
  pub earlier : p.since < next
  pub active : nat_lt waited p.since ≡ may_be_active q commands
  pub freed : p.freed ≡ list_any (frees q) commands

-- what is kept of a section says what its commands say
pub record IsKept (next : ℕ) (commands : List Command) (section : Section) : Type 0 where
  pub posted : map posting_view section.entries.items ≡ postings commands
  pub earlier : section.waited < next
  pub each : (q : ℕ) → IfSome (slice_get section.entries.items q) (IsKeptOf next section.waited commands q)
  -- no command names a request that isn't made yet
  pub unmade :
      (q : ℕ)
      → length section.entries.items ≤ q
      → (may_be_active q commands ≡ false) × (list_any (frees q) commands ≡ false)

-- for some of the first requests of a rank the last line that named it among others, before the line of that number
abbrev pub AreStamps : ℕ → ℕ → List ℕ → Type 0
AreStamps next count stamps =
    (length stamps ≤ count)
    × ((q : ℕ) → q < length stamps → slice_index stamps q < next)

-- what is kept beside a history, before the line of that number is read
pub record IsReader (next : ℕ) (r : Reader) : Type 0 where
  pub history : IsHistory next (history_of r)
  pub members : AllByRecursion (λ group. length group ≤ 64) (rows_view r.groups.items)
  pub sections : length r.sections.items ≡ unwrap_or r.ranks 0
  pub kept : (rank : ℕ) → IfSome (slice_get r.sections.items rank) (IsKept next (issued_by rank r.commands.items))
  pub total : r.total ≡ total r.commands.items

-- the stamps kept beside a history: a list for each rank, of lines before the next one
pub record IsStamped (next : ℕ) (r : Reader) : Type 0 where
  pub ranks : length r.stamps.items ≡ unwrap_or r.ranks 0
  pub each :
      (rank : ℕ)
      → IfSome (slice_get r.stamps.items rank)
      (λ stamps. AreStamps next (length (postings (issued_by rank r.commands.items))) stamps.items)

-- only stamps were written
pub record SameButStamps (old new : Reader) : Type 0 where
  pub ranks : new.ranks ≡ old.ranks
  pub groups : new.groups ≡ old.groups
  pub opened : new.opened ≡ old.opened
  pub commands : new.commands ≡ old.commands
  pub sections : new.sections ≡ old.sections
  pub total : new.total ≡ old.total
