-- Why a run has no result, and which fault is reported where several threads end with one.
use Rattle.std.specs.Prelude.{◌++◌, Bool, true, false, List, Option, Some, None}
use Rattle.std.specs.List.{fold}
use Rattle.std.specs.Option.{option_map}
use Rattle.coll_kinds.specs.declared.refusal.Refusal.{Refusal}
use Rattle.coll_kinds.specs.declared.refusal.Refusal.TheVariants as refusal
use Rattle.coll_script.specs.declared.fault.JobFault.{JobFault}
use Rattle.coll_script.specs.declared.fault.JobFault.TheVariants.{Read, Write, Text, NoThread}
use Rattle.coll_script.specs.Faults.{fault_of_refusal}

-- the faults of the run of a script
abbrev pub IsEnd : JobFault → Type 0
IsEnd Read = ⊥
IsEnd Write = ⊥
IsEnd (Text fault) = ⊥
IsEnd fault = Unit {0}

-- of the ends of two threads, the earlier one first, the one that is reported: a stall gives way to another refusal
abbrev pub graver : Option Refusal → Option Refusal → Option Refusal
graver None later = later
graver (Some refusal.Stalled) (Some later) = Some later
graver (Some why) later = Some why

-- the fault that is reported of the ends of the ranks' threads and of the progress threads: the first refusal that isn't a
-- stall, and else a stall; but where a thread couldn't be started, that
abbrev pub fault_of : Bool → List (Option Refusal) → List (Option Refusal) → Option JobFault
fault_of false ranks workers = Some NoThread
fault_of true ranks workers = option_map fault_of_refusal (fold graver None (ranks ++ workers))
