-- Worked rows, computed: how faults are reported.
use Rattle.std.specs.Prelude.{◌≡◌, ◌++◌, ◌∷◌, true, false, codes, refl}
use Rattle.std.specs.Fmt.{digits}
use Rattle.coll_parser.specs.declared.cause.Cause.TheVariants.{BadValue, PlaceMissing}
use Rattle.coll_parser.specs.declared.fault.Fault.{Fault}
use Rattle.coll_check.specs.declared.checking.CheckForm.TheVariants.{Text, Json}
use Rattle.coll_check.specs.Reports.{count_line, fault_line, fault_mark, is_marked, object_head, report_end, report_head}

abbrev pub bad_value : Fault
bad_value = record { line = 12; cause = BadValue }

for_a_reader : fault_line false bad_value ≡ codes "line 12: bad value\n"
unfolding digits
for_a_reader = refl

in_red : fault_line true bad_value ≡ 27 ∷ (codes "[1;31mline 12: bad value" ++ 27 ∷ codes "[0m\n")
unfolding digits
in_red = refl

in_json : object_head (record { line = 3; cause = PlaceMissing }) ≡ codes "{\"reason\":\"fault\",\"line\":3,\"cause\":\"place missing\","
unfolding digits
in_json = refl

-- at the end stands how many faults were reported
one_is_counted : count_line (codes "a.job") 1 true ≡ codes "a.job: 1 fault; the lines that follow weren't judged\n"
unfolding digits
one_is_counted = refl

two_are_counted : report_end (Text true) (codes "a.job") 2 false ≡ codes "a.job: 2 faults\n"
unfolding digits
two_are_counted = refl

two_in_json : report_end Json (codes "a.job") 2 false ≡ codes "{\"reason\":\"checked\",\"faults\":2,\"cut\":false,\"status\":2}\n"
unfolding digits
two_in_json = refl

-- lines that report a fault, also below others, and lines that don't
a_report_is_marked : is_marked (fault_mark false) (codes "line 3: bad value\n") ≡ true
a_report_is_marked = refl

a_later_one_is : is_marked (fault_mark true) (27 ∷ (codes "[1;34m |\n" ++ 27 ∷ codes "[1;31mline 3")) ≡ true
a_later_one_is = refl

another_line_is_not : is_marked (fault_mark false) (codes " --> a.job:3:1\n3 | line 3\n") ≡ false
another_line_is_not = refl
