-- The first fault is the first.
use Rattle.std.proofs.Common.{◌≡◌, ℕ, ◌+◌, List, [], ◌∷◌, Result, Ok, Err, refl, ap, arith}
use Rattle.coll_parser.specs.declared.cause.Cause.{Cause}
use Rattle.coll_parser.specs.declared.fault.Fault.{Fault}
use Rattle.coll_parser.specs.Cutting.{words_of}
use Rattle.coll_parser.specs.Reading.{and_then}
use Rattle.coll_parser.specs.Histories.{History}
use Rattle.coll_parser.specs.Lines.{line}
use Rattle.coll_parser.specs.Judging.{in_line, judged}
use Rattle.coll_parser.specs.Laws.{IsFirst}

fault_is : (a b : Fault) → ◌≡◌ {A = Result History Fault} (Err a) (Err b) → a ≡ b
fault_is a b e = cc

goes_on : (number : ℕ) (h next : History) (bytes : List ℕ) (lines : List (List ℕ)) (fault : Fault)
    → line number h (words_of bytes) ≡ Ok next → IsFirst (number + 1) next lines fault → IsFirst number h (bytes ∷ lines) fault
goes_on number h next bytes lines fault is first = record {
  before = bytes ∷ first.before;
  faulty = first.faulty;
  behind = first.behind;
  parts = ap (λ (rest : List (List ℕ)). bytes ∷ rest) first.parts;
  here = omega (arith, first.here);
  accepted = (first.accepted.0, rw is first.accepted.1);
  whatever_follows = λ others. rw is (first.whatever_follows others);
}

stops : (number : ℕ) (h : History) (bytes : List ℕ) (lines : List (List ℕ)) (cause : Cause) (fault : Fault)
    → line number h (words_of bytes) ≡ Err cause
    → ◌≡◌ {A = Result History Fault} (Err (record { line = number; cause = cause })) (Err fault) → IsFirst number h (bytes ∷ lines) fault
stops number h bytes lines cause fault is e = record {
  before = [];
  faulty = bytes;
  behind = lines;
  parts = refl;
  here = let same : number ≡ fault.line = ap (λ (f : Fault). f.line) (fault_is _ _ e) in omega arith;
  accepted = (h, refl);
  whatever_follows = λ others. rw is e;
}

first_by : (number : ℕ) (h : History) (bytes : List ℕ) (lines : List (List ℕ)) (fault : Fault) (read : Result History Cause)
    → ((next : History) → judged (number + 1) next lines ≡ Err fault → IsFirst (number + 1) next lines fault)
    → line number h (words_of bytes) ≡ read → and_then (in_line number read) (λ next. judged (number + 1) next lines) ≡ Err fault
    → IsFirst number h (bytes ∷ lines) fault
first_by number h bytes lines fault (Ok next) later is e = goes_on number h next bytes lines fault is (later next e)
first_by number h bytes lines fault (Err cause) later is e = stops number h bytes lines cause fault is e

pub first_fault : (number : ℕ) (h : History) (lines : List (List ℕ)) (fault : Fault) → judged number h lines ≡ Err fault → IsFirst number h lines fault
first_fault number h [] fault e = absurd cc
first_fault number h (bytes ∷ lines) fault e =
    first_by number h bytes lines fault (line number h (words_of bytes)) (λ next f. first_fault (number + 1) next lines fault f) refl e
