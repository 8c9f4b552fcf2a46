-- What an explanation says, and that it is true.
use Rattle.std.specs.Prelude.{◌≡◌, ◌++◌, ℕ, false, List, Option, codes}
use Rattle.std.specs.Fmt.{decimal}
use Rattle.std.specs.List.{list_any}
use Rattle.coll_parser.specs.Cutting.{is_line_feed}
use Rattle.coll_diagnosis.specs.declared.cure.Move.{Move}
use Rattle.coll_diagnosis.specs.declared.explaining.ExplainOptions.{ExplainOptions}
use Rattle.coll_diagnosis.specs.declared.explaining.Form.TheVariants.{Text, Json}
use Rattle.coll_diagnosis.specs.declared.explanation.ShownStall.{ShownStall}
use Rattle.coll_diagnosis.specs.declared.verdict.Verdict.{Verdict}
use Rattle.coll_diagnosis.specs.Details.{AreWaits, IsFoundOf, TellDetails, stuck_in}
pub use Rattle.coll_diagnosis.specs.Meanings.{Begins, IsStatus, Means, MeansOf, heading, is_always_here, is_never, is_proved, status_of, truth_word, word}

-- the object of JSON with a verdict, whether it is proved, the details, and the exit status
abbrev pub explained_object : Verdict → List ℕ → ℕ → List ℕ
explained_object verdict details status =
    codes "{\"reason\":\"explained\",\"verdict\":\""
    ++ (word verdict ++ (codes "\",\"proved\":" ++ (truth_word (is_proved verdict)
    ++ (codes "," ++ (details ++ (codes ",\"status\":" ++ (decimal status ++ codes "}\n")))))))

-- the line is such an object, whose details are in one line
abbrev pub IsExplained : Verdict → ℕ → List ℕ → Type 0
IsExplained verdict status line =
    (details : List ℕ) × (line ≡ explained_object verdict details status) × (list_any is_line_feed details ≡ false)

-- JSON ends with such a line
abbrev pub EndsExplained : Verdict → ℕ → List ℕ → Type 0
EndsExplained verdict status lines = (objects line : List ℕ) × (lines ≡ objects ++ line) × IsExplained verdict status line

-- the details of that object tell these, and before it stands an object of each rank that waits, and nothing else
abbrev pub EndsTelling : Verdict → ℕ → Option ShownStall → Option Move → List ℕ → Type 0
EndsTelling verdict status shown cure lines =
    (objects details : List ℕ)
    × (lines ≡ objects ++ explained_object verdict details status)
    × TellDetails verdict shown cure details
    × AreWaits (stuck_in shown) objects

-- what an explanation says: the status is that of a verdict, lines for a reader begin with the words of that verdict, and JSON
-- ends with an object that names it
pub record Says (options : ExplainOptions) (status : ℕ) (lines : List ℕ) : Type 0 where
  pub verdict : Verdict
  pub status_is : status ≡ status_of options.is_strict verdict
  pub words : options.form ≡ Text → Begins (heading verdict) lines
  pub object : options.form ≡ Json → EndsExplained verdict status lines

-- JSON has the ranks that wait in the stall that is shown, and ends with that stall and the cure, which are true of the text
abbrev pub IsTold : List ℕ → Verdict → ℕ → List ℕ → Type 0
IsTold text verdict status lines =
    (shown : Option ShownStall) × (cure : Option Move) × EndsTelling verdict status shown cure lines × IsFoundOf text verdict shown cure

-- and the verdict is true of the text, and so is what JSON ends with
pub record IsTrueOf (text : List ℕ) (options : ExplainOptions) (status : ℕ) (lines : List ℕ) : Type 0 where
  pub says : Says options status lines
  pub means : MeansOf text says.verdict
  pub told : options.form ≡ Json → IsTold text says.verdict status lines
