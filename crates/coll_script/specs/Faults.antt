-- Why the program ends without its answer, and with which status.
use Rattle.std.specs.Prelude.{ℕ}
use Rattle.coll_kinds.specs.declared.refusal.Refusal.{Refusal}
use Rattle.coll_kinds.specs.declared.refusal.Refusal.TheVariants as refusal
use Rattle.coll_parser.specs.declared.fault.ScriptFault.{ScriptFault}
use Rattle.coll_parser.specs.declared.fault.ScriptFault.TheVariants as script
use Rattle.coll_script.specs.declared.fault.JobFault.{JobFault}
use Rattle.coll_script.specs.declared.fault.JobFault.TheVariants.{Read, Write, Text, Stalled, Refused, Memory}
use Rattle.coll_script.specs.declared.fault.JobFault.TheVariants.{NoThread, Torn}

-- the exit status of a fault
abbrev pub status_of : JobFault → ℕ
status_of Read = 1
status_of Write = 1
status_of (Text fault) = 2
status_of Stalled = 3
status_of (Refused why) = 4
status_of Memory = 5
status_of NoThread = 5
status_of Torn = 5

-- the fault of a text that couldn't be read
abbrev pub fault_of_script : ScriptFault → JobFault
fault_of_script (script.Text fault) = Text fault
fault_of_script script.NoMemory = Memory

-- the fault of a call that was refused: want of memory, a stall and a torn report have faults of their own
abbrev pub fault_of_refusal : Refusal → JobFault
fault_of_refusal refusal.NoMemory = Memory
fault_of_refusal refusal.Stalled = Stalled
fault_of_refusal refusal.Torn = Torn
fault_of_refusal why = Refused why
