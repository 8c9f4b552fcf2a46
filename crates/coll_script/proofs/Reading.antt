-- A text's script is what its lines tell, and what is judged after them.
use Rattle.std.proofs.Common.{◌≡◌, ℕ, ◌<◌, ◌≤◌, true, false, ltb, List, length, Result, Err, refl, arith}
use Rattle.std.proofs.lemmas.Bool.Decides.{nat_tests}
use Rattle.coll_parser.specs.declared.cause.Cause.TheVariants.{TooLong}
use Rattle.coll_parser.specs.declared.fault.Fault.{Fault}
use Rattle.coll_parser.specs.declared.fault.ScriptFault.{ScriptFault}
use Rattle.coll_parser.specs.declared.fault.ScriptFault.TheVariants as script
use Rattle.coll_parser.specs.Code.{FailsText}
use Rattle.coll_parser.specs.Reading.{and_then}
use Rattle.coll_parser.specs.Cutting.{lines_of}
use Rattle.coll_parser.specs.Histories.{History, beginning}
use Rattle.coll_parser.specs.Judging.{judged}
use Rattle.coll_script.specs.Jobs.{completed, script_of}

pub script_of-long : (text : List ℕ) → 1048576 < length text → script_of text ≡ Err (record { line = 1; cause = TooLong })
unfolding script_of
script_of-long text long = let test : ltb 1048576 (length text) ≡ true = grind (arith, nat_tests) in rw test refl

pub script_of-judged : (text : List ℕ) (read : Result History Fault) → length text ≤ 1048576
    → judged 1 beginning (lines_of text) ≡ read → script_of text ≡ and_then read (completed (length (lines_of text)))
unfolding script_of
script_of-judged text read short e = let test : ltb 1048576 (length text) ≡ false = grind (arith, nat_tests) in rw (test, e) refl

pub FailsText-script_of : (fault : ScriptFault) (text : List ℕ) → length text ≤ 1048576
    → FailsText fault (judged 1 beginning (lines_of text)) → FailsText fault (script_of text)
FailsText-script_of script.NoMemory text short fails = tt
FailsText-script_of (script.Text fault) text short fails = script_of-judged text (Err fault) short fails
