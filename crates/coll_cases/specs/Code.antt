-- What the check's functions owe to the definitions.
use Rattle.std.specs.Prelude.{◌≡◌, ◌⊎◌, ℕ, ◌<◌, ◌≤◌, true, List, [], length, slice_get, slice_set, Some, Vec, IfSome, unwrap_or}
use Rattle.std.specs.Global.{Global}
use Rattle.coll_machine.specs.Settings.{Setting}
use Rattle.coll_parser.specs.declared.command.Command.{Command}
use Rattle.coll_parser.specs.Histories.{History, commands_of}
use Rattle.coll_verdict.specs.declared.known.KnownRequest.{KnownRequest}
use Rattle.coll_verdict.specs.declared.stood.Stood.{Stood}
use Rattle.coll_verdict.specs.declared.library.Library.{Library}
use Rattle.coll_verdict.specs.declared.library.Library.TheVariants.{Any, Hears}
use Rattle.coll_verdict.specs.Code.{AreAllTrue, AreStood, CanCome, IsSketch, NeverFor, stand_of}
use Rattle.coll_verdict.specs.Sketches.{Sketch, sketch_at}
use Rattle.coll_verdict.specs.Standings.{Standing, Reaches}
use Rattle.coll_verdict.specs.Stalls.{lines_of}
use Rattle.coll_verdict.specs.Waiting.{Hearing, ReachesBy}
use Rattle.coll_cases.specs.declared.split.Split.{Split}
use Rattle.coll_cases.specs.Outcomes.{is_open, IsOutcome, fixed}

-- ---- ranks

-- a rank before its first command
pub record IsReset (old new : Stood) : Type 0 where
  pub rank_is : new.rank ≡ old.rank
  pub commands : new.commands.items ≡ old.commands.items
  pub stand : new.stand ≡ 0
  pub requests : new.requests.items ≡ []

-- the same with another command in a place
pub record IsPut (old new : Stood) (place : ℕ) (c : Command) : Type 0 where
  pub rank_is : new.rank ≡ old.rank
  pub low : place < length old.commands.items
  pub commands : new.commands.items ≡ slice_set old.commands.items place c
  pub stand : new.stand ≡ 0
  pub requests : new.requests.items ≡ []

-- of one of the ranks
pub record Puts (xs ys : List Stood) (rank place : ℕ) (c : Command) : Type 0 where
  pub old : Stood
  pub new : Stood
  pub at : slice_get xs rank ≡ Some old
  pub is : ys ≡ slice_set xs rank new
  pub put : IsPut old new place c

-- the ranks of a job stand where they can come to
pub record HavePassed (library : Library) (h : History) (xs : List Stood) : Type 0 where
  pub stood : AreStood h xs
  pub passes : CanCome library h xs

-- ---- outcomes

-- one of the lists has these numbers
abbrev pub HasList : List (Vec ℕ Global) → List ℕ → Type 0
HasList lists qs = (i : ℕ) × (v : Vec ℕ Global) × (slice_get lists i ≡ Some v) × (v.items ≡ qs)

-- whatever the call may complete is among these
abbrev pub Covers : Sketch → Command → List (Vec ℕ Global) → Type 0
Covers k c lists = (out : List ℕ) → IsOutcome k c out → HasList lists out

-- such a call, and what it may complete
pub record AreOutcomes (known : List KnownRequest) (c : Command) (lists : List (Vec ℕ Global)) : Type 0 where
  pub choice : is_open c ≡ true
  pub covers : (k : Sketch) → IsSketch known k → Covers k c lists

-- a job's command
pub record IsCall (h : History) (split : Split) : Type 0 where
  pub get : slice_get (commands_of h split.rank) split.place ≡ Some split.command
  pub choice : is_open split.command ≡ true
  pub is_rank : split.rank < unwrap_or h.ranks 0

-- one that its rank has passed
pub record IsSplit (h : History) (xs : List Stood) (split : Split) : Type 0 where
  pub call : IsCall h split
  pub low : split.place < stand_of xs split.rank
  pub covers : Covers (sketch_at (commands_of h split.rank) split.place) split.command split.outcomes.items

-- ---- no stall

-- in no run the rank passes its command of that number
abbrev pub StaysFor : Library → History → ℕ → ℕ → Type 0
StaysFor Any h rank place = (g : Setting) → g.groups ≡ h.groups → (s : Standing) → Reaches g (lines_of h) s → s.at rank ≤ place
StaysFor (Hears tables) h rank place = (hears : Hearing) → AreAllTrue hears tables.items
    → (g : Setting) → g.groups ≡ h.groups → (s : Standing) → ReachesBy hears g (lines_of h) s → s.at rank ≤ place

-- no run in which the call completes these stalls, if there is one
abbrev pub IsRefuted : Library → History → Split → List ℕ → Type 0
IsRefuted library h split out =
    NeverFor library (fixed h split.rank split.place out) ⊎ StaysFor library (fixed h split.rank split.place out) split.rank split.place

-- so for the first n of what it may complete
abbrev pub AreRefuted : Library → History → Split → ℕ → Type 0
AreRefuted library h split n = (i : ℕ) → i < n → IfSome (slice_get split.outcomes.items i) (λ v. IsRefuted library h split v.items)

-- no run of the job stalls, and its ranks are still its ranks
pub record IsShown (library : Library) (h : History) (xs : List Stood) : Type 0 where
  pub never : NeverFor library h
  pub stood : AreStood h xs
