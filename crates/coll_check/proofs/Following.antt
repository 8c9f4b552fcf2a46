-- How reports follow one another.
use Rattle.std.proofs.Common.{◌≡◌, ◌<◌, ◌+◌, ℕ, Bool, List, [], ◌∷◌, ◌++◌, length, map, take, get_or, refl, ap, sym, subst, ◌∙◌, append_assoc, arith}
use Rattle.std.proofs.lemmas.List.{append-nil, length-map, map-append, take_more}
use Rattle.coll_parser.specs.declared.fault.Fault.{Fault}
use Rattle.coll_check.specs.declared.checking.CheckForm.{CheckForm}
use Rattle.coll_check.specs.Reports.{AreReports, IsReport, ReportsAll, report_end}

-- a report of one fault
pub reports-one : (form : CheckForm) (fault : Fault) (report : List ℕ) → IsReport form fault report → AreReports form (fault ∷ []) report
reports-one form fault report is = (report, [], sym (append-nil report), is, refl)

-- reports, and one more
pub reports-more : (form : CheckForm) (faults : List Fault) (fault : Fault) (bytes report : List ℕ)
    → AreReports form faults bytes → IsReport form fault report → AreReports form (faults ++ fault ∷ []) (bytes ++ report)
reports-more form [] fault bytes report are is =
    subst (λ (b : List ℕ). AreReports form (fault ∷ []) (b ++ report)) (sym are) (reports-one form fault report is)
reports-more form (first ∷ faults) fault bytes report are is = (
  are.0,
  are.1 ++ report,
  ap (λ (b : List ℕ). b ++ report) are.2 ∙ append_assoc are.0 are.1 report,
  are.3,
  reports-more form faults fault are.1 report are.4 is,
)

-- the reports of what was found first and of the first of the others, and that of the next
pub reports-step : {X : Type 0} (form : CheckForm) (fault : X → Fault) (first : Fault) (found : List X) (i : ℕ) (next : X) (bytes report : List ℕ)
    → i < length found
    → next ≡ get_or found i next → AreReports form (first ∷ map fault (take i found)) bytes → IsReport form (fault next) report
    → AreReports form (first ∷ map fault (take (i + 1) found)) (bytes ++ report)
reports-step {X} form fault first found i next bytes report lt there are is =
    subst (λ (faults : List Fault). AreReports form (first ∷ faults) (bytes ++ report)) (sym more)
    (reports-more form (first ∷ map fault (take i found)) (fault next) bytes report are is)
  where
    more : map fault (take (i + 1) found) ≡ map fault (take i found) ++ fault next ∷ []
    more = ap (map fault) (take_more found i next lt)
        ∙ (map-append fault (take i found) (get_or found i next ∷ [])
        ∙ ap (λ (x : X). map fault (take i found) ++ fault x ∷ []) (sym there))

-- the reports of all that was found, and how many they are
pub reports-all : {X : Type 0} (form : CheckForm) (name : List ℕ) (fault : X → Fault) (first : Fault) (found : List X)
    (count : ℕ) (cut : Bool) (reports end lines : List ℕ)
    → count ≡ length found + 1 → AreReports form (first ∷ map fault found) reports → end ≡ report_end form name count cut → lines ≡ reports ++ end
    → ReportsAll form name (first ∷ map fault found) cut lines
reports-all {X} form name fault first found count cut reports end lines many are ends is = (
  reports,
  are,
  is ∙ ap (λ (bytes : List ℕ). reports ++ bytes) (ends ∙ ap (λ (n : ℕ). report_end form name n cut) (many ∙ counted)),
)
  where
    counted : length found + 1 ≡ length (first ∷ map fault found)
    counted = let mapped = length-map found fault in omega (arith, mapped)
