-- What ranks have come to that carry their lines out on a core.
use Rattle.std.specs.Prelude.{◌≡◌, ◌==◌, ℕ, suc, Bool, List, [], length, slice_get, Option, Some, None, unwrap_or, Vec}
use Rattle.std.specs.Global.{Global}
use Rattle.coll_kinds.specs.declared.ticket.Ticket.{Ticket}
use Rattle.coll_machine.specs.Common.{AreGroups, Machine}
use Rattle.coll_plans.specs.Hearings.{hears_here}
use Rattle.coll_parser.specs.declared.command.Command.{Command}
use Rattle.coll_parser.specs.Histories.{History}
use Rattle.coll_verdict.specs.Standings.{Holding, Standing, AtEnd, nothing_made}
use Rattle.coll_verdict.specs.Stalls.{lines_of}
use Rattle.coll_verdict.specs.Waiting.{IsStalledBy}
use Rattle.coll_core.specs.Cores.{Parts, seen, setting}
use Rattle.coll_deadlock.specs.Runs.{IsRunOf}
use Rattle.coll_replay.specs.declared.player.Player.{Player}
use Rattle.coll_replay.specs.Calls.{CarriesOut, IsBlocked}

-- ---- ranks

-- what is held of the request of that number: null, or a ticket
abbrev pub held_at : List (Option Ticket) → ℕ → Option Ticket
held_at held q = unwrap_or (slice_get held q) None

-- of all requests that were made
abbrev pub holding : List (Option Ticket) → Holding
holding held = record { made = length held; of = λ q. held_at held q }

abbrev pub at_in : Option Player → ℕ
at_in None = 0
at_in (Some player) = player.at

abbrev pub holding_in : Option Player → Holding
holding_in None = nothing_made
holding_in (Some player) = holding player.held.items

-- what a job has come to whose ranks are these
abbrev pub standing_of : Machine → List Player → Standing
standing_of m players = record {
  machine = m;
  at = λ rank. at_in (slice_get players rank);
  holds = λ rank. holding_in (slice_get players rank);
}

abbrev pub commands_in : Option (Vec Command Global) → List Command
commands_in None = []
commands_in (Some commands) = commands.items

-- these are the lines of each rank; what is no rank has none
abbrev pub AreLines : List (Vec Command Global) → (ℕ → List Command) → Type 0
AreLines lines f = (rank : ℕ) → commands_in (slice_get lines rank) ≡ f rank

-- ---- how they go on

-- a rank has carried the next of its commands out
pub record Advances (p r : Parts) (rank : ℕ) (commands : List Command) (old new : Player) : Type 0 where
  pub command : Command
  pub next : slice_get commands old.at ≡ Some command
  pub at : new.at ≡ suc old.at
  pub carries : CarriesOut p r rank command (holding old.held.items) (holding new.held.items)

-- the engine has gone on by itself
pub record EngineGoesOn (p r : Parts) : Type 0 where
  pub set : setting r ≡ setting p
  pub run : (f : ℕ → List Command) (s : Standing) → IsRunOf p f s → IsRunOf r f (record s { machine = seen r })

-- before their first lines
abbrev pub AreBeginners : List Player → Type 0
AreBeginners players = (rank : ℕ) → (at_in (slice_get players rank) ≡ 0) × (holding_in (slice_get players rank) ≡ nothing_made)

-- a run of these lines that had come to the old core and ranks comes to the new ones
pub record GoesOn (lines : List (Vec Command Global)) (p : Parts) (old : List Player) (r : Parts) (new : List Player) : Type 0 where
  pub set : setting r ≡ setting p
  pub run : (f : ℕ → List Command) → AreLines lines f
      → IsRunOf p f (standing_of (seen p) old)
      → IsRunOf r f (standing_of (seen r) new)

-- the rank is at its end, or in a call that needn't return
abbrev pub IsBlockedAt : Machine → List (Vec Command Global) → List Player → ℕ → Type 0
IsBlockedAt m lines players rank = (c : Command)
    → slice_get (commands_in (slice_get lines rank)) (at_in (slice_get players rank)) ≡ Some c
    → IsBlocked m (holding_in (slice_get players rank)) c

-- the rank has carried all its lines out
abbrev pub is_at_end : List (Vec Command Global) → List Player → ℕ → Bool
is_at_end lines players rank = at_in (slice_get players rank) == length (commands_in (slice_get lines rank))

-- where such a run comes to the core and the ranks, it stalls
abbrev pub StallsThere : List (Vec Command Global) → Parts → List Player → Type 0
StallsThere lines p players = (f : ℕ → List Command) → AreLines lines f → AreGroups (setting p)
    → IsRunOf p f (standing_of (seen p) players)
    → IsStalledBy hears_here (setting p) f (standing_of (seen p) players)

-- where such a run comes to the ranks, it has come to its end
abbrev pub EndsThere : List (Vec Command Global) → List Player → Type 0
EndsThere lines players = (f : ℕ → List Command) (m : Machine) → AreLines lines f → AtEnd f (standing_of m players)

-- a run of the job has come to the core and the ranks
pub record IsReplayed (h : History) (p : Parts) (lines : List (Vec Command Global)) (players : List Player) : Type 0 where
  pub groups : (setting p).groups ≡ h.groups
  pub apart : AreGroups (setting p)
  pub lines_are : AreLines lines (lines_of h)
  pub run : IsRunOf p (lines_of h) (standing_of (seen p) players)
