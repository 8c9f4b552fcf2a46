-- What calls answer, in the machine's words.
use Rattle.coll_kinds.specs.declared.refusal.Refusal.{Refusal}
use Rattle.coll_machine.specs.Common.{Setting, Machine, Call, Refused, MachineStep}

-- the machine refuses the call so
abbrev pub Refuses : Setting → Machine → Call → Refusal → Type 0
Refuses g m call why = MachineStep g m call (Refused why) m
