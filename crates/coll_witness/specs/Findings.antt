-- What replayed runs show, how it is said, and that it is true.
use Rattle.std.specs.Prelude.{◌≡◌, ◌++◌, ℕ, ◌⊎◌, false, List, Ok, codes}
use Rattle.std.specs.List.{list_any}
use Rattle.coll_parser.specs.Cutting.{is_line_feed}
use Rattle.coll_parser.specs.Histories.{History}
use Rattle.coll_script.specs.Jobs.{script_of}
use Rattle.coll_replay.specs.Witnesses.{EndsInSome, StallsInSome}
use Rattle.coll_diagnosis.specs.declared.explaining.ExplainOptions.{ExplainOptions}
use Rattle.coll_diagnosis.specs.declared.explaining.Form.{Form}
use Rattle.coll_diagnosis.specs.declared.explaining.Form.TheVariants.{Text, Json, Dot}
use Rattle.coll_diagnosis.specs.Verdicts as verdicts
pub use Rattle.coll_diagnosis.specs.Verdicts.{IsStatus}
use Rattle.coll_witness.specs.declared.finding.Finding.{Finding}
use Rattle.coll_witness.specs.declared.finding.Finding.TheVariants.{InSome, Sometimes}

-- ---- what was found

-- what it means of a job
abbrev pub Means : Finding → History → Type 0
Means InSome h = StallsInSome h
Means Sometimes h = StallsInSome h × EndsInSome h

-- the same of the job of a text
abbrev pub MeansOf : List ℕ → Finding → Type 0
MeansOf text finding = (h : History) → script_of text ≡ Ok h → Means finding h

-- its words, with which lines for a reader begin: those of no verdict begin with them
abbrev pub heading : Finding → List ℕ
heading InSome = codes "stalls in some runs (proved), and none was found that ends"
heading Sometimes = codes "stalls in some runs (proved), and ends in others (proved)"

-- the same in a word of JSON
abbrev pub word : Finding → List ℕ
word InSome = codes "in some"
word Sometimes = codes "sometimes"

-- ---- how it is said

-- the object of JSON that names it, with where the ranks stand in the run that stalls
abbrev pub run_object : Finding → List ℕ → List ℕ
run_object finding standing =
    codes "{\"reason\":\"explained\",\"verdict\":\""
    ++ (word finding ++ (codes "\",\"proved\":true,\"headline\":\""
    ++ (heading finding ++ (codes "\",\"shortest\":" ++ (standing ++ codes ",\"moves\":[],\"status\":6}\n")))))

-- JSON ends with such an object, which is one line
abbrev pub EndsRun : Finding → List ℕ → Type 0
EndsRun finding lines = (objects standing : List ℕ) × (lines ≡ objects ++ run_object finding standing) × (list_any is_line_feed standing ≡ false)

-- lines for a reader begin with its words, and JSON ends with an object that names it; of a graph nothing is said
abbrev pub SaysIn : Form → Finding → List ℕ → Type 0
SaysIn Text finding lines = verdicts.Begins (heading finding) lines
SaysIn Json finding lines = EndsRun finding lines
SaysIn Dot finding lines = Unit {0}

-- the lines say it, and it is true of the job
pub record ShowsRun (h : History) (options : ExplainOptions) (lines : List ℕ) : Type 0 where
  pub finding : Finding
  pub says : SaysIn options.form finding lines
  pub means : Means finding h

-- the lines say what was found, with the status of runs that may stall
pub record SaysRun (options : ExplainOptions) (status : ℕ) (lines : List ℕ) : Type 0 where
  pub finding : Finding
  pub status_is : status ≡ 6
  pub says : SaysIn options.form finding lines

-- and it is true of the text
pub record IsTrueRun (text : List ℕ) (options : ExplainOptions) (status : ℕ) (lines : List ℕ) : Type 0 where
  pub says : SaysRun options status lines
  pub means : MeansOf text says.finding

-- ---- an explanation by all runs, or by some

-- it says a verdict on all runs, or what was found of some
pub record Says (options : ExplainOptions) (status : ℕ) (lines : List ℕ) : Type 0 where
  pub of : verdicts.Says options status lines ⊎ SaysRun options status lines

-- and that is true of the text
pub record IsTrueOf (text : List ℕ) (options : ExplainOptions) (status : ℕ) (lines : List ℕ) : Type 0 where
  pub of : verdicts.IsTrueOf text options status lines ⊎ IsTrueRun text options status lines
