-- What becomes of a combination that was computed with the lock free.
use Rattle.std.specs.Prelude.{Result, Ok, Err}
use Rattle.coll_kinds.specs.declared.refusal.Refused.{Refused}
use Rattle.coll_core.specs.declared.stepped.Stepped.{Stepped}
use Rattle.coll_core.specs.Cores.{Parts}
use Rattle.coll_core.specs.Steps.{CommitSteps, IsOut, Returns}
use Rattle.coll_core.specs.Works.{Made, Piece}

-- if it was out, it is done, with its result
abbrev pub WritesDone : Parts → Parts → Made → Type 0
WritesDone p r done = IsOut p done.piece → (stepped : Stepped) × CommitSteps p r done stepped

-- the same; or it is ready again, where it was refused memory
abbrev pub Writes : Parts → Parts → Result Made (Refused Piece) → Type 0
Writes p r (Ok done) = WritesDone p r done
Writes p r (Err refused) = IsOut p refused.back → Returns p r refused.back

-- it isn't out any longer
abbrev pub IsUnwanted : Parts → Result Made (Refused Piece) → Type 0
IsUnwanted p (Ok done) = IsOut p done.piece → ⊥
IsUnwanted p (Err refused) = IsOut p refused.back → ⊥
