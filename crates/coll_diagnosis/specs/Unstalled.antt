-- A stall is what is explained, and no reason to explain nothing.
use Rattle.std.specs.Prelude.{◌≡◌, Bool, true, false}
use Rattle.coll_script.specs.declared.fault.JobFault.{JobFault}
use Rattle.coll_script.specs.declared.fault.JobFault.TheVariants.{Read, Write, Text, Stalled, Refused, Memory, NoThread, Torn}

abbrev pub is_stall : JobFault → Bool
is_stall Read = false
is_stall Write = false
is_stall (Text fault) = false
is_stall Stalled = true
is_stall (Refused why) = false
is_stall Memory = false
is_stall NoThread = false
is_stall Torn = false

-- another fault
abbrev pub IsNoStall : JobFault → Type 0
IsNoStall fault = is_stall fault ≡ false
