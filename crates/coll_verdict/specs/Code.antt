-- What the checker's functions owe to the definitions.
use Rattle.std.specs.Prelude.{◌≡◌, ℕ, suc, ◌==◌, List, length, count_by, slice_get, Option, Some, None, Vec, IfSome, unwrap_or, ◌<◌, Bool, true, false}
use Rattle.std.specs.Global.{Global}
use Rattle.coll_machine.specs.Settings.{Setting}
use Rattle.coll_parser.specs.Histories.{History, commands_of}
use Rattle.coll_verdict.specs.declared.known.KnownRequest.{KnownRequest}
use Rattle.coll_kinds.specs.Needs.{needs}
use Rattle.coll_verdict.specs.declared.stood.Stood.{Stood}
use Rattle.coll_verdict.specs.declared.library.Library.{Library}
use Rattle.coll_verdict.specs.declared.library.Library.TheVariants.{Any, Hears}
use Rattle.coll_verdict.specs.declared.library.HeardRows.{HeardRows}
use Rattle.coll_verdict.specs.Sketches.{Sketch, sketched_if, sketch_at}
use Rattle.coll_verdict.specs.Stalls.{lines_of, StallsAlways, StallsNever}
use Rattle.coll_verdict.specs.Waiting.{Hearing, StallsAlwaysBy, StallsNeverBy}
use Rattle.coll_verdict.specs.Passes.{Rule, Passes}
use Rattle.coll_verdict.specs.Checking.{says}

-- what is kept of a request is what the sketch says
pub record IsKnown (k : Sketch) (q : ℕ) (x : KnownRequest) : Type 0 where
  pub comm : k.comm q ≡ x.comm
  pub place : k.place q ≡ x.place
  pub sig : k.sig q ≡ Some x.sig
  pub starts : k.starts q ≡ x.starts
  pub rested : k.rested q ≡ x.is_rested
  pub named : k.named q ≡ x.is_named

-- and so for all requests
pub record IsSketch (xs : List KnownRequest) (k : Sketch) : Type 0 where
  pub made : length xs ≡ k.made
  pub posted : (comm : ℕ) → count_by (λ x. x.comm == comm) xs ≡ k.posted comm
  pub each : (q : ℕ) → IfSome (slice_get xs q) (IsKnown k q)

-- what is kept of a rank is what the history says of it
pub record IsStood (h : History) (rank : ℕ) (x : Stood) : Type 0 where
  pub rank_is : x.rank ≡ rank
  pub commands : x.commands.items ≡ commands_of h rank
  pub sketched : IsSketch x.requests.items (sketch_at (commands_of h rank) x.stand)

-- and so for all ranks
pub record AreStood (h : History) (xs : List Stood) : Type 0 where
  pub ranks : length xs ≡ unwrap_or h.ranks 0
  pub each : (rank : ℕ) → IfSome (slice_get xs rank) (IsStood h rank)

-- ---- stands

abbrev pub stand_in : Option Stood → ℕ
stand_in None = 0
stand_in (Some x) = x.stand

-- the stand of each rank
abbrev pub stand_of : List Stood → ℕ → ℕ
stand_of xs rank = stand_in (slice_get xs rank)

-- the rank has carried one more command out
pub record IsAhead (old new : Stood) : Type 0 where
  pub rank_is : new.rank ≡ old.rank
  pub commands : new.commands.items ≡ old.commands.items
  pub stand : new.stand ≡ suc old.stand
  pub sketched : (k : Sketch) → IsSketch old.requests.items k → IsSketch new.requests.items (sketched_if (slice_get old.commands.items old.stand) k)

-- ---- libraries

-- what a table says of its collective is so, and whoever a value rests on is waited for
pub record AreTrue (hears : Hearing) (table : HeardRows) : Type 0 where
  pub said : (member other : ℕ) (b : Bool)
      → other < length table.rows.items
      → says table member other ≡ Some b
      → hears table.sig (length table.rows.items) member other ≡ b
  pub needed : (member other : ℕ)
      → member < length table.rows.items
      → needs table.sig (length table.rows.items) member other ≡ true
      → hears table.sig (length table.rows.items) member other ≡ true

-- and so for each table
abbrev pub AreAllTrue : Hearing → List HeardRows → Type 0
AreAllTrue hears tables = (i : ℕ) → IfSome (slice_get tables i) (AreTrue hears)

-- a request waits for at least those of whom the library is known to
abbrev pub HearsOf : Hearing → Library → Type 0
HearsOf hears Any = hears ≡ needs
HearsOf hears (Hears tables) = AreAllTrue hears tables.items

-- and for no others; nothing is asked where it may be any library
pub data Follows (rule : Rule) : Library → Type 0 where
  any : Follows rule Any
  hears : (tables : Vec HeardRows Global) → rule.holds ≡ false → AreAllTrue rule.hears tables.items → Follows rule (Hears tables)

-- what it is that every run stalls, and that none does
abbrev pub AlwaysFor : Library → History → Type 0
AlwaysFor Any h = StallsAlways h
AlwaysFor (Hears tables) h = (hears : Hearing) → AreAllTrue hears tables.items → StallsAlwaysBy hears h

abbrev pub NeverFor : Library → History → Type 0
NeverFor Any h = StallsNever h
NeverFor (Hears tables) h = (hears : Hearing) → AreAllTrue hears tables.items → StallsNeverBy hears h

-- ---- passes

-- ranks can come to these stands
abbrev pub CanCome : Library → History → List Stood → Type 0
CanCome library h xs = (rule : Rule) → Follows rule library → (g : Setting) → g.groups ≡ h.groups → Passes rule g (lines_of h) (stand_of xs)

-- where ranks can come to the old stands, they can come to the new ones
pub record Advances (library : Library) (h : History) (old new : List Stood) : Type 0 where
  pub stood : AreStood h new
  pub passes : CanCome library h old → CanCome library h new
