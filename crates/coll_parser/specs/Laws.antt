-- What holds of all texts: the first fault is the first.
use Rattle.std.specs.Prelude.{◌≡◌, ℕ, ◌+◌, IsTrue, List, [], ◌∷◌, ◌++◌, length, Ok, Err}
use Rattle.std.specs.List.{list_any}
use Rattle.coll_parser.specs.declared.fault.Fault.{Fault}
use Rattle.coll_parser.specs.Cutting.{lines_of}
use Rattle.coll_parser.specs.Histories.{History, beginning, starts, waits_for}
use Rattle.coll_parser.specs.declared.command.Command.{Command}
use Rattle.coll_parser.specs.Judging.{judged}
use Rattle.coll_parser.specs.Writing.{Tells, text_of}

-- the fault is that of one line: those before it are accepted by themselves, and whatever lines follow it, the fault is
-- the same
pub record IsFirst (number : ℕ) (h : History) (lines : List (List ℕ)) (fault : Fault) : Type 0 where
  pub before : List (List ℕ)
  pub faulty : List ℕ
  pub behind : List (List ℕ)
  pub parts : lines ≡ before ++ faulty ∷ behind
  pub here : fault.line ≡ number + length before
  pub accepted : (next : History) × (judged number h before ≡ Ok next)
  pub whatever_follows : (others : List (List ℕ)) → judged number h (before ++ faulty ∷ others) ≡ Err fault

-- the history can be said: there are lines that say it, one after another, and written so they read as it again
pub record CanBeSaid (h : History) : Type 0 where
  pub first : List (List ℕ)
  pub others : List (List (List ℕ))
  pub tells : Tells 1 beginning (first ∷ others) h
  pub reads : judged 1 beginning (lines_of (text_of (first ∷ others))) ≡ Ok h

-- request q is surely inactive after these commands: after each start of it stands a wait that names it
abbrev pub EachStartIsOver : ℕ → List Command → Type 0
EachStartIsOver q [] = Unit {0}
EachStartIsOver q (command ∷ commands) =
    (IsTrue (starts q command) → IsTrue (list_any (waits_for q) commands))
    × EachStartIsOver q commands
