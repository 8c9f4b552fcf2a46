-- What is reported of a text that is checked.
use Rattle.std.specs.Prelude.{◌≡◌, ◌++◌, ℕ, [], ◌∷◌, Bool, true, false, List, codes, MatchResult}
use Rattle.coll_parser.specs.declared.fault.Fault.{Fault}
use Rattle.coll_script.specs.Meaning.{meaning}
use Rattle.coll_diagnosis.specs.declared.explaining.ExplainOptions.{ExplainOptions}
use Rattle.coll_diagnosis.specs.declared.explaining.Form.TheVariants as explain_form
use Rattle.coll_check.specs.declared.checking.CheckForm.{CheckForm}
use Rattle.coll_check.specs.declared.checking.CheckForm.TheVariants.{Text, Json}
use Rattle.coll_check.specs.Reports.{ReportsAll, checked_object}
use Rattle.coll_witness.specs.Findings as findings

-- ---- of a text with a fault

-- its first fault is reported first, then further ones, and at the end how many they are
abbrev pub ReportsFault : CheckForm → List ℕ → Fault → List ℕ → Type 0
ReportsFault form name fault lines = (further : List Fault) × (cut : Bool) × ReportsAll form name (fault ∷ further) cut lines

-- ---- of a text without one

-- how it is explained
abbrev pub explained_as : CheckForm → ExplainOptions
explained_as (Text colored) = record { form = explain_form.Text; is_strict = false; is_whole = false; is_colored = colored }
explained_as Json = record { form = explain_form.Json; is_strict = false; is_whole = false; is_colored = false }

-- what stands before the explanation of a text of that name
abbrev pub faultless_head : CheckForm → List ℕ → ℕ → List ℕ
faultless_head (Text colored) name status = name ++ codes ": no fault\n"
faultless_head Json name status = checked_object 0 false status

-- that a text isn't all of its program
abbrev pub apart_words : List ℕ
apart_words = codes "more of the program isn't in this text: what follows is said of its collectives by themselves"

-- for a reader of a text of that name
abbrev pub apart_line : List ℕ → List ℕ
apart_line name = name ++ (codes ": note: " ++ (apart_words ++ codes "\n"))

-- what stands before the explanation of a text of that name that isn't all of its program
abbrev pub apart_note : CheckForm → List ℕ → Bool → List ℕ
apart_note form name false = []
apart_note (Text colored) name true = apart_line name
apart_note Json name true = codes "{\"reason\":\"note\",\"message\":\"" ++ (apart_words ++ codes "\"}\n")

-- that it has no fault, if need be that it isn't all of its program (which of its lines say so is only tested), and then its explanation,
-- whose verdict is true of the text and whose status is that of the check
abbrev pub ReportsNone : CheckForm → List ℕ → List ℕ → ℕ → List ℕ → Type 0
ReportsNone form name text status lines =
    (explanation : List ℕ)
    × (apart : Bool)
    × (lines ≡ faultless_head form name status ++ (apart_note form name apart ++ explanation))
    × findings.IsTrueOf text (explained_as form) status explanation

-- what is said of a text of that name, with that status
abbrev pub Says : CheckForm → List ℕ → List ℕ → ℕ → List ℕ → Type 0
Says form name text status lines =
    MatchResult (meaning text) (λ outcomes. ReportsNone form name text status lines) (λ fault. ReportsFault form name fault lines)
