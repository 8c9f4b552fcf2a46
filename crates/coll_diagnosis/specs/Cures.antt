-- A text with one line moved, and what is promised of a move.
use Rattle.std.specs.Prelude.{ℕ, zero, suc, ◌-◌, ◌<◌, List, [], ◌∷◌, ◌++◌, take, drop, if◌then◌else◌}
use Rattle.coll_parser.specs.Cutting.{is_line_feed}
use Rattle.coll_script.specs.Meaning.{HasMeaning}
use Rattle.coll_diagnosis.specs.declared.cure.Move.{Move}
use Rattle.coll_diagnosis.specs.declared.verdict.Verdict.TheVariants.{Never}
use Rattle.coll_diagnosis.specs.Meanings.{MeansOf}

-- ---- lines, each with the line feed that it ends in

-- how many lines are left after a byte
abbrev pub left_after : ℕ → ℕ → ℕ
left_after byte lines = if is_line_feed byte then lines - 1 else lines

-- how many bytes the first lines have
abbrev pub lines_len : List ℕ → ℕ → ℕ
lines_len [] lines = 0
lines_len (byte ∷ text) zero = 0
lines_len (byte ∷ text) (suc n) = suc (lines_len text (left_after byte (suc n)))

-- the first lines, and those after them
abbrev pub front : ℕ → List ℕ → List ℕ
front lines text = take (lines_len text lines) text

abbrev pub back : ℕ → List ℕ → List ℕ
back lines text = drop (lines_len text lines) text

-- ---- one line is moved

-- a line that that many others are before is moved to the place after that many later ones
abbrev pub moved_in : ℕ → ℕ → List ℕ → List ℕ
moved_in before between text =
    ((front before text
    ++ front between (back 1 (back before text)))
    ++ front 1 (back before text))
    ++ back between (back 1 (back before text))

-- the text with one line moved to the place after a later one; its last line ends in a line feed, so a blank line may come after it
abbrev pub moved_text : ℕ → ℕ → List ℕ → List ℕ
moved_text line after text = moved_in (line - 1) (after - line) (text ++ 10 ∷ [])

-- the text has a meaning, and no run of it stalls
abbrev pub IsCured : List ℕ → Type 0
IsCured text = HasMeaning text × MeansOf text Never

-- the line is moved to the place after a later one, and then no run of the text stalls
pub record IsTried (text : List ℕ) (move : Move) : Type 0 where
  pub later : move.line < move.behind
  pub cured : IsCured (moved_text move.line move.behind text)
