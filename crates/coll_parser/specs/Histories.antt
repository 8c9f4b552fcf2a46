-- What the lines of a text have said so far, and what follows from it.
use Rattle.std.specs.Prelude.{ℕ, ◌==◌, Bool, true, false, not, ◌&&◌, ◌||◌, Option, Some, None}
use Rattle.std.specs.Prelude.{List, [], ◌∷◌, ◌++◌, length, map, filter, filter_map, fold, slice_index_or}
use Rattle.std.specs.List.{list_any, range_with_len}
use Rattle.coll_kinds.specs.declared.kind.Mode.{Mode}
use Rattle.coll_kinds.specs.declared.kind.Mode.TheVariants.{Once, Persistent}
use Rattle.coll_kinds.specs.declared.signature.Signature.{Signature}
use Rattle.coll_parser.specs.declared.command.Command.{Command}
use Rattle.coll_parser.specs.declared.command.Command.TheVariants.{Post, Init, Start, Wait, Free, WaitAll}
use Rattle.coll_parser.specs.declared.issued_command.IssuedCommand.{IssuedCommand}
use Rattle.coll_kinds.specs.Groups.{is_among}

-- what the lines so far have said
pub record History : Type 0 where
  pub ranks : Option ℕ  -- the number of ranks, once it is said
  pub groups : List (List ℕ)  -- the group of each communicator, by its number
  pub opened : Option ℕ  -- the rank whose section stands open
  pub commands : List IssuedCommand  -- the commands of all ranks, in the order of their lines

-- before the first line
abbrev pub beginning : History
beginning = record { ranks = None; groups = []; opened = None; commands = [] }

-- ---- groups

-- the group of a communicator; a number that names none has no members
abbrev pub group_of : List (List ℕ) → ℕ → List ℕ
group_of groups comm = slice_index_or groups comm []

-- ---- what a command says of a request

-- what is posted: on which communicator, and with which signature, mode included
pub record Posting : Type 0 where
  pub comm : ℕ
  pub sig : Signature

-- what a command posts, where it makes a request
abbrev pub posting : Command → Option Posting
posting (Post comm sig given) = Some (record { comm = comm; sig = sig })
posting (Init comm sig) = Some (record { comm = comm; sig = sig })
posting command = None

-- what a post gives at once
abbrev pub given_at_once : Command → List (List ℕ)
given_at_once (Post comm sig given) = given ∷ []
given_at_once command = []

-- whether it is a start of request q
abbrev pub starts : ℕ → Command → Bool
starts q (Start other given) = other == q
starts q command = false

-- whether it is a start of some request
abbrev pub is_start : Command → Bool
is_start (Start other given) = true
is_start command = false

-- whether it frees request q
abbrev pub frees : ℕ → Command → Bool
frees q (Free other) = other == q
frees q command = false

-- whether it is a wait after which request q is surely inactive
abbrev pub waits_for : ℕ → Command → Bool
waits_for q (Wait other) = other == q
waits_for q (WaitAll qs) = is_among q qs
waits_for q command = false

-- ---- what a section says of its requests

-- the commands that a rank issues, in the order of their lines
abbrev pub issued_by : ℕ → List IssuedCommand → List Command
issued_by rank issued = map (λ t. t.command) (filter (λ t. t.rank == rank) issued)

-- its requests: they are numbered from 0, in the order of these lines
abbrev pub postings : List Command → List Posting
postings commands = filter_map posting commands

-- a request may be active: a start makes it so, until a wait names it
abbrev pub may_be_active : ℕ → List Command → Bool
may_be_active q commands =
    fold (λ active command. starts q command || (active && not (waits_for q command))) false commands

-- a request of this mode is made by an initialisation
abbrev pub is_persistent : Mode → Bool
is_persistent Once = false
is_persistent Persistent = true

-- a start or a free may name the request: it is persistent, no free has named it, and it is surely inactive
abbrev pub is_startable : ℕ → Posting → List Command → Bool
is_startable q p commands =
    is_persistent p.sig.mode
    && not (list_any (frees q) commands)
    && not (may_be_active q commands)

-- the commands of a rank, and after the last line of its section an unwritten `waitall` of all its requests
abbrev pub commands_of : History → ℕ → List Command
commands_of h rank = issued_by rank h.commands ++ WaitAll (range_with_len 0 (length (postings (issued_by rank h.commands)))) ∷ []

-- how many requests there are in all
abbrev pub total : List IssuedCommand → ℕ
total issued = length (postings (map (λ t. t.command) issued))
