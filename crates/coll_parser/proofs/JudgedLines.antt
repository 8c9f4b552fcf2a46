-- A text is judged line by line.
use Rattle.std.proofs.Common.{◌≡◌, ℕ, ◌+◌, ◌-◌, ◌<◌, ◌≤◌, Bool, true, false, cond, List, ◌∷◌, length, get_or, take, drop, Option, Some, None, Result}
use Rattle.std.proofs.Common.{Ok, Err, refl, ap, sym, ◌∙◌, arith}
use Rattle.std.specs.Iterator.{Yields}
use Rattle.std.proofs.lemmas.Iterator.{YieldsList}
use Rattle.std.proofs.lemmas.Iterator.Consumers.{YieldsList-turn, YieldsList-end}
use Rattle.std.proofs.lemmas.List.{length-take}
use Rattle.std.proofs.lemmas.List.Sums.{count_by-le-length}
use Rattle.std.proofs.lemmas.List.Splits.{length-slice_split}
use Rattle.coll_parser.specs.declared.fault.LineFault.{LineFault}
use Rattle.coll_parser.specs.declared.fault.LineFault.TheVariants as fault
use Rattle.coll_parser.specs.declared.fault.Fault.{Fault}
use Rattle.coll_parser.specs.Cutting.{words_of, is_line_feed, body_of, lines_of}
use Rattle.coll_parser.specs.Histories.{History}
use Rattle.coll_parser.specs.Lines.{line}
use Rattle.coll_parser.specs.Judging.{judged}
use Rattle.coll_parser.specs.Code.{FailsSo, FailsText, fault_in_line}
use Rattle.coll_parser.proofs.Lists.{drop-more, drop-past}

-- ---- a loop over what an iterator yields, of which it is known first how far it is

module _ {S A B : Type 0} {steps : S → Option A → S → Type 0} {v : A → B} {s : S} {all : List B}
    (xs : List A) (t : S) (so_far : Yields steps s xs t) (r : Option A) (u : S) (step : steps t r u) where
  pub turn_of : (x : A) → r ≡ Some x → YieldsList steps v s all → (length xs < length all) × (v x ≡ get_or all (length xs) (v x))
  turn_of x is yields = YieldsList-turn yields xs t so_far r u x is step

  pub end_of : r ≡ None → YieldsList steps v s all → length xs ≡ length all
  end_of is yields = (YieldsList-end yields xs t so_far r u is step).1

-- a line that is accepted leads on to the next
pub judged-more : (number : ℕ) (h next : History) (n : ℕ) (lines : List (List ℕ)) (bytes : List ℕ) (total : Result History Fault)
    → n < length lines → bytes ≡ get_or lines n bytes
    → line number h (words_of bytes) ≡ Ok next → judged number h (drop n lines) ≡ total → judged (number + 1) next (drop (n + 1) lines) ≡ total
judged-more number h next n lines bytes total lt is accepted so_far =
    let step : judged number h (bytes ∷ drop (n + 1) lines) ≡ judged (number + 1) next (drop (n + 1) lines) = rw accepted refl in
    sym step ∙ ap (judged number h) (sym (drop-more lines n bytes lt is)) ∙ so_far

-- a line that isn't ends it
pub judged-stops : (why : LineFault) (number : ℕ) (h : History) (n : ℕ) (lines : List (List ℕ)) (bytes : List ℕ) (total : Result History Fault)
    → n < length lines → bytes ≡ get_or lines n bytes
    → FailsSo why (line number h (words_of bytes)) → judged number h (drop n lines) ≡ total → FailsText (fault_in_line number why) total
judged-stops fault.NoMemory number h n lines bytes total lt is fails so_far = tt
judged-stops (fault.Broken cause) number h n lines bytes total lt is fails so_far =
    let step : judged number h (bytes ∷ drop (n + 1) lines) ≡ Err (record { line = number; cause = cause }) = rw fails refl in
    sym so_far ∙ ap (judged number h) (drop-more lines n bytes lt is) ∙ step

-- after the last line the history is that of the text
pub judged-ends : (number : ℕ) (h : History) (n : ℕ) (lines : List (List ℕ)) (total : Result History Fault)
    → length lines ≤ n → judged number h (drop n lines) ≡ total → total ≡ Ok h
judged-ends number h n lines total le so_far = sym so_far ∙ ap (judged number h) (drop-past lines n le)

length-cond : (b : Bool) (n : ℕ) (text : List ℕ) → length (cond b (take n text) text) ≤ length text
length-cond true n text = let len = length-take n text in omega arith
length-cond false n text = omega arith

length-body_of : (text : List ℕ) → length (body_of text) ≤ length text
length-body_of text = length-cond _ (length text - 1) text

-- a text has at most one line more than bytes
pub length-lines_of : (text : List ℕ) → length (lines_of text) ≤ length text + 1
length-lines_of text =
    let count = length-slice_split is_line_feed (body_of text) in
    let most = count_by-le-length is_line_feed (body_of text) in
    let body = length-body_of text in
    omega arith
