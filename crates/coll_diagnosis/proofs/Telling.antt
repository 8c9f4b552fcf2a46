-- How the lines of ranks that wait follow one another, and what JSON ends with.
use Rattle.std.proofs.Common.{◌≡◌, ◌<◌, ◌+◌, ℕ, List, [], ◌∷◌, ◌++◌, length, take, get_or, refl, ap, sym, subst, ◌∙◌, append_assoc}
use Rattle.std.proofs.lemmas.List.{append-nil, take_more}
use Rattle.std.specs.Prelude.{IfOk, Result, Ok, Err, Option, ok_or}
use Rattle.std.specs.Result.{result_ok}
use Rattle.coll_diagnosis.specs.declared.cure.Move.{Move}
use Rattle.coll_diagnosis.specs.declared.explanation.ShownStall.{ShownStall}
use Rattle.coll_diagnosis.specs.declared.stuck.Stuck.{Stuck}
use Rattle.coll_diagnosis.specs.declared.verdict.Verdict.{Verdict}
use Rattle.coll_diagnosis.specs.Details.{AreWaits, IsWait, TellDetails, moves_text, standing_text, told_text}
use Rattle.coll_diagnosis.specs.Meanings.{Begins, heading}

-- the line of one rank
waits-one : (stuck : Stuck) (line : List ℕ) → IsWait stuck line → AreWaits (stuck ∷ []) line
waits-one stuck line is = (line, [], sym (append-nil line), is, refl)

-- those of some ranks, and one more
waits-more : (ranks : List Stuck) (stuck : Stuck) (lines line : List ℕ) → AreWaits ranks lines → IsWait stuck line
    → AreWaits (ranks ++ stuck ∷ []) (lines ++ line)
waits-more [] stuck lines line are is = subst (λ (l : List ℕ). AreWaits (stuck ∷ []) (l ++ line)) (sym are) (waits-one stuck line is)
waits-more (first ∷ ranks) stuck lines line are is = (
  are.0,
  are.1 ++ line,
  ap (λ (l : List ℕ). l ++ line) are.2 ∙ append_assoc are.0 are.1 line,
  are.3,
  waits-more ranks stuck are.1 line are.4 is,
)

-- those of the first ranks, and that of the next
pub waits-step : (ranks : List Stuck) (i : ℕ) (next : Stuck) (lines line : List ℕ) → i < length ranks → next ≡ get_or ranks i next
    → AreWaits (take i ranks) lines → IsWait next line → AreWaits (take (i + 1) ranks) (lines ++ line)
waits-step ranks i next lines line lt there are is =
    subst (λ (r : List Stuck). AreWaits r (lines ++ line)) (sym more) (waits-more (take i ranks) next lines line are is)
  where
    more : take (i + 1) ranks ≡ take i ranks ++ next ∷ []
    more = take_more ranks i next lt ∙ ap (λ (x : Stuck). take i ranks ++ x ∷ []) (sym there)

-- the parts of details tell what they are of
pub tells : (verdict : Verdict) (shown : Option ShownStall) (cure : Option Move) (head standing moves details : List ℕ) → Begins (heading verdict) head
    → standing ≡ standing_text shown → moves ≡ moves_text cure → details ≡ told_text head standing moves → TellDetails verdict shown cure details
tells verdict shown cure head standing moves details begins stands moved is = (
  head,
  begins,
  is ∙ (ap (λ (s : List ℕ). told_text head s moves) stands ∙ ap (λ (m : List ℕ). told_text head (standing_text shown) m) moved),
)

-- what holds of a result holds of it by way of an option
pub json_written : {X E F : Type 0} (A : Type 0) (P : X → Type 0) (r : Result X E) (lines : Option X) (why : F) (out : Result X F)
    → lines ≡ result_ok r → out ≡ ok_or lines why → IfOk r P → IfOk out (λ x. A → P x)
json_written {X} {E} {F} A P (Ok x) lines why out is made holds =
    subst (λ (o : Result X F). IfOk o (λ x. A → P x)) (sym (made ∙ ap (λ (l : Option X). ok_or l why) is)) (λ a. holds)
json_written {X} {E} {F} A P (Err e) lines why out is made holds =
    subst (λ (o : Result X F). IfOk o (λ x. A → P x)) (sym (made ∙ ap (λ (l : Option X). ok_or l why) is)) tt

-- in another form nothing is owed
pub other_written : {X F : Type 0} {A : Type 0} (P : X → Type 0) (out : Result X F) → (A → ⊥) → IfOk out (λ x. A → P x)
other_written P (Ok x) not = λ a. absurd (not a)
other_written P (Err e) not = tt
