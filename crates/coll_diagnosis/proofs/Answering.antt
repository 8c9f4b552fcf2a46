-- What is read decides how it is explained.
use Rattle.std.proofs.Common.{◌≡◌, ℕ, List, ap, refl}
use Rattle.std.specs.Prelude.{Result, Ok, Err}
use Rattle.coll_parser.specs.declared.fault.Fault.{Fault}
use Rattle.coll_parser.specs.Reading.{and_then}
use Rattle.coll_parser.specs.Histories.{History}
use Rattle.coll_script.specs.Jobs.{script_of, job_of}
use Rattle.coll_script.specs.Meaning.{meaning, job_lines}
use Rattle.coll_script.specs.Plain.{IsReadFault}
use Rattle.coll_script.specs.Faults.{fault_of_script}
use Rattle.coll_parser.specs.declared.fault.ScriptFault.{ScriptFault}
use Rattle.coll_parser.specs.declared.fault.ScriptFault.TheVariants as script
use Rattle.coll_script.specs.declared.fault.JobFault.{JobFault}
use Rattle.coll_script.specs.declared.fault.JobFault.TheVariants.{Read, Write, Text, Stalled, Refused, Memory, NoThread, Torn}
use Rattle.coll_diagnosis.specs.Unstalled.{IsNoStall}

-- a text whose script is a fault has that fault
pub meaning-fault : (text : List ℕ) (fault : Fault) → script_of text ≡ Err fault → meaning text ≡ Err fault
meaning-fault text fault is = ap (λ (read : Result History Fault). and_then read (λ h. Ok (job_lines (job_of h)))) is

-- no fault of reading is a stall
pub unstalled-read : (fault : JobFault) → IsReadFault fault → IsNoStall fault
unstalled-read Read fails = refl
unstalled-read Write fails = absurd fails
unstalled-read (Text fault) fails = absurd fails
unstalled-read Stalled fails = absurd fails
unstalled-read (Refused why) fails = absurd fails
unstalled-read Memory fails = refl
unstalled-read NoThread fails = absurd fails
unstalled-read Torn fails = absurd fails

-- nor one of a script
pub unstalled-script : (fault : ScriptFault) → IsNoStall (fault_of_script fault)
unstalled-script (script.Text fault) = refl
unstalled-script script.NoMemory = refl
