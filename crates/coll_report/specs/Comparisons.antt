-- Whether a rank's posts, initialisations and starts are its commands, taken one after the other.
use Rattle.std.specs.Prelude.{◌≡◌, List, map, slice_get, Option, Some, None}
use Rattle.coll_kinds.specs.declared.ticket.Ticket.{Ticket}
use Rattle.coll_machine.specs.Entries.{Entry, Posted, Inited, Started, Retired, Freed}
use Rattle.coll_report.specs.Scripts.{Command, Post, Init, Start, Other, Says}
use Rattle.coll_report.specs.declared.command.Command as rust_command
use Rattle.coll_report.specs.declared.command.Command.TheVariants as rust

-- the code's command as that of a script
abbrev pub said : rust_command.Command → Command
said (rust.Post comm sig given) = Post comm sig given.now
said (rust.Init comm sig) = Init comm sig
said (rust.Start request given) = Start request given.now
said rust.Other = Other

abbrev pub all_said : List rust_command.Command → List Command
all_said cs = map said cs

-- the tickets of the requests so far, and the entries that are still to be compared
pub record Compared : Type 0 where
  pub tickets : List Ticket
  pub left : List Entry

-- these entries are those commands
abbrev pub SaysLeft : Compared → List Command → Type 0
SaysLeft c commands = Says c.tickets commands c.left

-- the entry is the command's; ts are the tickets of the requests before it
abbrev pub IsOf : List Ticket → Command → Entry → Type 0
IsOf ts (Post c s b) (Posted rank t comm place sig bytes) = (comm ≡ c) × (sig ≡ s) × (bytes ≡ b)
IsOf ts (Init c s) (Inited rank t comm place sig) = (comm ≡ c) × (sig ≡ s)
IsOf ts (Start q b) (Started rank t start bytes) = (slice_get ts q ≡ Some t) × (bytes ≡ b)
IsOf ts command entry = ⊥

-- the ticket of the request that the entry made
abbrev pub ticket_made : Entry → Option Ticket
ticket_made (Posted rank t comm place sig bytes) = Some t
ticket_made (Inited rank t comm place sig) = Some t
ticket_made (Started rank t start bytes) = None
ticket_made (Retired rank t comm place start bytes) = None
ticket_made (Freed rank t) = None
