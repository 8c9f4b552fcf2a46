-- Reading a line from its left: a step takes words, and gives a value and the words after it, or the line's fault.
-- Steps stand in the order in which rules are judged, so the first rule that is broken is the fault.
use Rattle.std.specs.Prelude.{ℕ, Bool, cond, List, [], ◌∷◌, ◌++◌, Option, Some, None, Result, Ok, Err, if◌then◌else◌}
use Rattle.coll_kinds.specs.Groups.{is_among}
use Rattle.coll_parser.specs.declared.cause.Cause.{Cause}
use Rattle.coll_parser.specs.declared.cause.Cause.TheVariants.{BadWords}

-- a step that reads an A
abbrev pub Reading : Type 0 → Type 0
Reading A = List (List ℕ) → Result (A × List (List ℕ)) Cause

-- what comes next of a value; a fault stays
abbrev pub and_then : {A B E : Type 0} → Result A E → (A → Result B E) → Result B E
and_then (Ok x) next = next x
and_then (Err cause) next = Err cause

-- one step after another, which may depend on the value of the first
infixl 10 ◌>>=◌
abbrev pub ◌>>=◌ : {A B : Type 0} → Reading A → (A → Reading B) → Reading B
◌>>=◌ step next words = and_then (step words) (λ read. next read.0 read.1)

-- a value, without a word
abbrev pub give : {A : Type 0} → A → Reading A
give value words = Ok (value, words)

-- a fault, whatever the words
abbrev pub fault : {A : Type 0} → Cause → Reading A
fault cause words = Err cause

-- a value that may be missing: then this is the fault
abbrev pub known : {A : Type 0} → Option A → Cause → Reading A
known (Some value) cause = give value
known None cause = fault cause

-- a test that may fail: then this is the fault
abbrev pub must : Bool → Cause → Reading (Unit {0})
must holds cause = cond holds (give tt) (fault cause)

-- the next word; at the end of the line a word is missing
abbrev pub word : Reading (List ℕ)
word [] = Err BadWords
word (w ∷ words) = Ok (w, words)

-- the line ends here; else there is a word too many
abbrev pub end : Reading (Unit {0})
end [] = Ok (tt, [])
end (w ∷ words) = Err BadWords

-- the number that each word names, after those named before; none may be named twice
abbrev pub numbers_from : (List ℕ → Result ℕ Cause) → Cause → List ℕ → List (List ℕ) → Result (List ℕ) Cause
numbers_from read twice before [] = Ok before
numbers_from read twice before (w ∷ words) =
    and_then (read w) (λ n. if is_among n before then Err twice else numbers_from read twice (before ++ n ∷ []) words)

-- all words that are left, at least one
abbrev pub numbers : (List ℕ → Result ℕ Cause) → Cause → Reading (List ℕ)
numbers read twice [] = Err BadWords
numbers read twice (w ∷ words) = and_then (numbers_from read twice [] (w ∷ words)) (λ ns. Ok (ns, []))
