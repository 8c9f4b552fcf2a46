-- How many bytes the first lines of a text have, as far as they were passed; and what a line is that was moved.
use Rattle.std.proofs.Common.{◌≡◌, ℕ, zero, suc, ◌+◌, ◌<◌, ◌≤◌, Bool, List, [], ◌∷◌, length, drop, Result, Ok, Err, refl, ap, ◌∙◌, subst, arith}
use Rattle.std.specs.Prelude.{slice_index, IfOk, IsTrue}
use Rattle.coll_parser.proofs.Lists.{drop-past}
use Rattle.coll_script.proofs.Loops.{drop-at}
use Rattle.coll_diagnosis.specs.declared.cure.Move.{Move}
use Rattle.coll_diagnosis.specs.Cures.{IsCured, IsTried, left_after, lines_len, moved_text}

no-lines : (text : List ℕ) → lines_len text 0 ≡ 0
no-lines [] = refl
no-lines (byte ∷ text) = refl

passed : (i whole rest total : ℕ) → whole ≡ suc rest → i + whole ≡ total → (i + 1) + rest ≡ total
passed i whole rest total is so_far = omega (arith, is, so_far)

none-left : (i rest total : ℕ) → rest ≡ 0 → i + rest ≡ total → i ≡ total
none-left i rest total is so_far = omega (arith, is, so_far)

-- a byte of the first lines is passed
pub lines-more : (text : List ℕ) (i n total : ℕ) → i < length text → 0 < n → i + lines_len (drop i text) n ≡ total
    → (i + 1) + lines_len (drop (i + 1) text) (left_after (slice_index text i) n) ≡ total
lines-more text i zero total lt some so_far = absurd (omega (arith, some))
lines-more text i (suc n) total lt some so_far =
    passed i _ _ total (ap (λ (t : List ℕ). lines_len t (suc n)) (drop-at text i 0 lt)) so_far

-- all of them are
pub lines-passed : (rest : List ℕ) (i n total : ℕ) → n ≡ 0 → i + lines_len rest n ≡ total → i ≡ total
lines-passed rest i n total none so_far = none-left i (lines_len rest n) total (ap (lines_len rest) none ∙ no-lines rest) so_far

-- the text is at its end
pub lines-ended : (text : List ℕ) (i n total : ℕ) → length text ≤ i → i + lines_len (drop i text) n ≡ total → i ≡ total
lines-ended text i n total le so_far =
    none-left i (lines_len (drop i text) n) total (ap (λ (t : List ℕ). lines_len t n) (drop-past text i le)) so_far

-- what was tried of a text that was made as the move says
pub tried : {E : Type 0} (r : Result Bool E) (text cured : List ℕ) (move : Move) → move.line < move.behind → cured ≡ moved_text move.line move.behind text
    → IfOk r (λ never. IsTrue never → IsCured cured) → IfOk r (λ is_cure. IsTrue is_cure → IsTried text move)
tried (Ok is) text cured move later same means = λ yes. record { later = later; cured = subst IsCured same (means yes) }
tried (Err why) text cured move later same means = tt
