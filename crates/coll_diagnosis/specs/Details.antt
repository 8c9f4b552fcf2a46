-- What an explanation in JSON tells beside its verdict: of the stall that is shown, and of the cure.
use Rattle.std.specs.Prelude.{◌≡◌, ◌++◌, ℕ, [], ◌∷◌, false, List, Option, Some, None, Ok, IfSome, codes, flat_map}
use Rattle.std.specs.Fmt.{decimal}
use Rattle.std.specs.List.{list_any}
use Rattle.coll_parser.specs.Cutting.{is_line_feed}
use Rattle.coll_parser.specs.Histories.{History}
use Rattle.coll_script.specs.Jobs.{script_of}
use Rattle.coll_diagnosis.specs.declared.cure.Move.{Move}
use Rattle.coll_diagnosis.specs.declared.explanation.ShownStall.{ShownStall}
use Rattle.coll_diagnosis.specs.declared.stuck.Stuck.{Stuck}
use Rattle.coll_diagnosis.specs.declared.verdict.Verdict.{Verdict}
use Rattle.coll_diagnosis.specs.declared.verdict.Verdict.TheVariants.{Never, NeverHere, Perhaps, AlwaysHere, Always}
use Rattle.coll_diagnosis.specs.declared.waiting.WaitsFor.{WaitsFor}
use Rattle.coll_diagnosis.specs.declared.waiting.WaitsFor.TheVariants.{Heard, All}
use Rattle.coll_diagnosis.specs.Cures.{IsTried}
use Rattle.coll_diagnosis.specs.Meanings.{Begins, heading}
use Rattle.coll_diagnosis.specs.Standing.{IsShown}

-- ---- ranks, and the line that is moved

abbrev pub comma_rank : ℕ → List ℕ
comma_rank rank = 44 ∷ decimal rank

-- ranks as a list in JSON
abbrev pub ranks_text : List ℕ → List ℕ
ranks_text [] = codes "[]"
ranks_text (first ∷ rest) = codes "[" ++ (decimal first ++ (flat_map comma_rank rest ++ codes "]"))

-- a move as a list of at most one: its line is moved to the place after the later one
abbrev pub moves_text : Option Move → List ℕ
moves_text None = codes "[]"
moves_text (Some move) =
    codes "[{\"rank\":"
    ++ (decimal move.rank ++ (codes ",\"line\":" ++ (decimal move.line ++ (codes ",\"behind\":" ++ (decimal move.behind ++ codes "}]")))))

-- ---- where the ranks stand

-- the fewest ranks that wait for one another, those that do, those that wait for them, and those at their ends
abbrev pub shortest_in : Option ShownStall → List ℕ
shortest_in None = []
shortest_in (Some shown) = shown.ring.items

abbrev pub circle_in : Option ShownStall → List ℕ
circle_in None = []
circle_in (Some shown) = shown.standstill.circle.items

abbrev pub behind_in : Option ShownStall → List ℕ
behind_in None = []
behind_in (Some shown) = shown.standstill.behind.items

abbrev pub ended_in : Option ShownStall → List ℕ
ended_in None = []
ended_in (Some shown) = shown.standstill.ended.items

abbrev pub standing_text : Option ShownStall → List ℕ
standing_text shown =
    codes "\"shortest\":"
    ++ (ranks_text (shortest_in shown)
    ++ (codes ",\"circle\":"
    ++ (ranks_text (circle_in shown) ++ (codes ",\"behind\":" ++ (ranks_text (behind_in shown) ++ (codes ",\"ended\":" ++ ranks_text (ended_in shown)))))))

-- ---- the ranks that wait, an object in each line

abbrev pub stuck_in : Option ShownStall → List Stuck
stuck_in None = []
stuck_in (Some shown) = shown.standstill.stuck.items

-- the line in which a rank waits; none is that of the unwritten waitall
abbrev pub line_text : Option ℕ → List ℕ
line_text None = codes "null"
line_text (Some line) = decimal line

abbrev pub wait_head : Stuck → List ℕ
wait_head stuck = codes "{\"reason\":\"waits\",\"rank\":" ++ (decimal stuck.rank ++ (codes ",\"line\":" ++ (line_text stuck.line ++ codes ",")))

-- the line is of this rank: after the head comes what else is known of it
abbrev pub IsWait : Stuck → List ℕ → Type 0
IsWait stuck line = (known : List ℕ) × (line ≡ wait_head stuck ++ (known ++ codes "\n")) × (list_any is_line_feed known ≡ false)

-- the lines are of these ranks, one after the other
abbrev pub AreWaits : List Stuck → List ℕ → Type 0
AreWaits [] lines = lines ≡ []
AreWaits (stuck ∷ others) lines = (line : List ℕ) × (rest : List ℕ) × (lines ≡ line ++ rest) × IsWait stuck line × AreWaits others rest

-- ---- the details

-- a headline, where the ranks stand, and moves, each as text
abbrev pub told_text : List ℕ → List ℕ → List ℕ → List ℕ
told_text head standing moves = codes "\"headline\":\"" ++ (head ++ (codes "\"," ++ (standing ++ (codes ",\"moves\":" ++ moves))))

abbrev pub details_text : List ℕ → Option ShownStall → Option Move → List ℕ
details_text head shown cure = told_text head (standing_text shown) (moves_text cure)

-- they tell what is shown and the cure, after a line that begins with the words of the verdict
abbrev pub TellDetails : Verdict → Option ShownStall → Option Move → List ℕ → Type 0
TellDetails verdict shown cure details = (head : List ℕ) × Begins (heading verdict) head × (details ≡ details_text head shown cure)

-- ---- and what holds of them

-- the completions of the course that is shown wait for all members where this engine's schedules never stall, and else for those heard
abbrev pub waiting_of : Verdict → WaitsFor
waiting_of Never = All
waiting_of NeverHere = All
waiting_of Perhaps = Heard
waiting_of AlwaysHere = Heard
waiting_of Always = Heard

-- what is shown is true of the script, in the reading of the verdict, and the cure of the text was tried
pub record IsFound (h : History) (text : List ℕ) (verdict : Verdict) (shown : Option ShownStall) (cure : Option Move) : Type 0 where
  pub standing : IfSome shown (IsShown h)
  pub reading : IfSome shown (λ stall. stall.waiting ≡ waiting_of verdict)
  pub tried : IfSome cure (IsTried text)

-- the same of the script of the text
abbrev pub IsFoundOf : List ℕ → Verdict → Option ShownStall → Option Move → Type 0
IsFoundOf text verdict shown cure = (h : History) → script_of text ≡ Ok h → IsFound h text verdict shown cure
