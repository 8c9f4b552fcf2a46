-- How the faults of a text are reported: each by its line and the words of its cause, and their number at the end.
use Rattle.std.specs.Prelude.{◌≡◌, ◌++◌, ◌==◌, ◌&&◌, ◌||◌, ℕ, [], ◌∷◌, Bool, true, false, List, codes, length, map, if◌then◌else◌}
use Rattle.std.specs.List.{list_any, starts_with}
use Rattle.std.specs.Fmt.{decimal}
use Rattle.coll_parser.specs.Cutting.{is_line_feed}
use Rattle.coll_parser.specs.declared.fault.Fault.{Fault}
use Rattle.coll_faults.specs.declared.faults.Faults.{Faults}
use Rattle.coll_faults.specs.declared.finding.Finding.{Finding}
use Rattle.coll_diagnosis.specs.Verdicts.{truth_word}
use Rattle.coll_check.specs.declared.checking.CheckForm.{CheckForm}
use Rattle.coll_check.specs.declared.checking.CheckForm.TheVariants.{Text, Json}
use Rattle.coll_check.specs.Causes.{words_of}

-- ---- one fault

-- the control sequence that makes a terminal paint red, and the one that ends it
abbrev pub paint_of_fault : Bool → List ℕ
paint_of_fault true = 27 ∷ codes "[1;31m"
paint_of_fault false = []

abbrev pub end_of_paint : Bool → List ℕ
end_of_paint true = 27 ∷ codes "[0m"
end_of_paint false = []

-- the line for a reader that reports it
abbrev pub fault_line : Bool → Fault → List ℕ
fault_line colored fault =
    paint_of_fault colored
    ++ (codes "line " ++ (decimal fault.line ++ (codes ": " ++ (words_of fault.cause ++ (end_of_paint colored ++ codes "\n")))))

-- how the object of JSON begins that reports it
abbrev pub object_head : Fault → List ℕ
object_head fault =
    codes "{\"reason\":\"fault\",\"line\":" ++ (decimal fault.line ++ (codes ",\"cause\":\"" ++ (words_of fault.cause ++ codes "\",")))

-- how its report begins
abbrev pub report_head : CheckForm → Fault → List ℕ
report_head (Text colored) fault = fault_line colored fault
report_head Json fault = object_head fault

-- how the line for a reader begins that reports any fault
abbrev pub fault_mark : Bool → List ℕ
fault_mark colored = paint_of_fault colored ++ codes "line "

-- these bytes begin with the mark
abbrev pub begins_with : List ℕ → List ℕ → Bool
begins_with mark bytes = starts_with (λ (a b : ℕ). a == b) bytes mark

-- the byte ends a line, and the mark begins the next one
abbrev pub begins_line : List ℕ → ℕ → List ℕ → Bool
begins_line mark byte rest = is_line_feed byte && begins_with mark rest

-- a line after the first one begins with the mark
abbrev pub is_marked_later : List ℕ → List ℕ → Bool
is_marked_later mark [] = false
is_marked_later mark (byte ∷ bytes) = begins_line mark byte bytes || is_marked_later mark bytes

-- some line does
abbrev pub is_marked : List ℕ → List ℕ → Bool
is_marked mark bytes = begins_with mark bytes || is_marked_later mark bytes

-- what is known of a fault reports no other one: no line of it begins as a report does, and what is known in JSON is in one line
abbrev pub IsKnown : CheckForm → List ℕ → Type 0
IsKnown (Text colored) known = is_marked (fault_mark colored) known ≡ false
IsKnown Json known = list_any is_line_feed known ≡ false

-- these bytes report it: after the head comes what is known of it, and a line feed
abbrev pub IsReport : CheckForm → Fault → List ℕ → Type 0
IsReport form fault bytes = (known : List ℕ) × (bytes ≡ report_head form fault ++ (known ++ codes "\n")) × IsKnown form known

-- ---- all of them

-- these bytes report these faults, one after the other
abbrev pub AreReports : CheckForm → List Fault → List ℕ → Type 0
AreReports form [] bytes = bytes ≡ []
AreReports form (fault ∷ faults) bytes =
    (report : List ℕ) × (rest : List ℕ) × (bytes ≡ report ++ rest) × IsReport form fault report × AreReports form faults rest

abbrev pub fault_noun : ℕ → List ℕ
fault_noun count = if count == 1 then codes "fault" else codes "faults"

-- whether lines weren't judged, in words
abbrev pub unjudged : Bool → List ℕ
unjudged true = codes "; the lines that follow weren't judged"
unjudged false = []

-- the line for a reader with their number
abbrev pub count_line : List ℕ → ℕ → Bool → List ℕ
count_line name count cut =
    name ++ (codes ": " ++ (decimal count ++ (codes " " ++ (fault_noun count ++ (unjudged cut ++ codes "\n")))))

-- the object of JSON with their number, whether lines weren't judged, and the status
abbrev pub checked_object : ℕ → Bool → ℕ → List ℕ
checked_object count cut status =
    codes "{\"reason\":\"checked\",\"faults\":"
    ++ (decimal count ++ (codes ",\"cut\":" ++ (truth_word cut ++ (codes ",\"status\":" ++ (decimal status ++ codes "}\n")))))

-- how the reports of a text of that name end
abbrev pub report_end : CheckForm → List ℕ → ℕ → Bool → List ℕ
report_end (Text colored) name count cut = count_line name count cut
report_end Json name count cut = checked_object count cut 2

-- the lines report these faults, and nothing else, and end with their number
abbrev pub ReportsAll : CheckForm → List ℕ → List Fault → Bool → List ℕ → Type 0
ReportsAll form name faults cut lines =
    (reports : List ℕ) × AreReports form faults reports × (lines ≡ reports ++ report_end form name (length faults) cut)

-- ---- those that were found

abbrev pub fault_in : Finding → Fault
fault_in finding = finding.fault

-- the faults that were found, the text's first fault first
abbrev pub faults_in : Faults → List Fault
faults_in faults = faults.first.fault ∷ map fault_in faults.further.items
