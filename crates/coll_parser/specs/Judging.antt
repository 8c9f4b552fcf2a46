-- The lines of a text, judged one after another, each by the history of those before it.
use Rattle.std.specs.Prelude.{ℕ, ◌+◌, List, [], ◌∷◌, Result, Ok, Err}
use Rattle.coll_parser.specs.declared.cause.Cause.{Cause}
use Rattle.coll_parser.specs.declared.fault.Fault.{Fault}
use Rattle.coll_parser.specs.Cutting.{words_of}
use Rattle.coll_parser.specs.Reading.{and_then}
use Rattle.coll_parser.specs.Histories.{History}
use Rattle.coll_parser.specs.Lines.{line}

abbrev pub fault_at : {A : Type 0} → ℕ → Cause → Result A Fault
fault_at number cause = Err (record { line = number; cause = cause })

abbrev pub in_line : {A : Type 0} → ℕ → Result A Cause → Result A Fault
in_line number (Ok x) = Ok x
in_line number (Err cause) = fault_at number cause

-- the history after these lines, of which the first has that number
abbrev pub judged : ℕ → History → List (List ℕ) → Result History Fault
judged number h [] = Ok h
judged number h (bytes ∷ lines) =
    and_then (in_line number (line number h (words_of bytes))) (λ next. judged (number + 1) next lines)
