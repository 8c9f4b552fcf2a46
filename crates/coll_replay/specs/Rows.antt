-- Worked rows: jobs of which some run stalls, or ends, and jobs of which none does.
use Rattle.std.specs.Prelude.{◌≡◌, [], ◌∷◌, refl}
use Rattle.coll_machine.specs.Common.{Setting, barrier}
use Rattle.coll_parser.specs.declared.command.Command.TheVariants.{Post, WaitAll}
use Rattle.coll_parser.specs.Histories.{History, beginning}
use Rattle.coll_verdict.specs.Rows.{crossed, lone, one_rank}
use Rattle.coll_verdict.specs.Stalls.{lines_of}
use Rattle.coll_verdict.specs.Waiting.{Hearing}
use Rattle.coll_replay.specs.Witnesses.{EndsInSomeBy, StallsInSomeBy}

-- a rank posts a barrier with a second member, who says nothing
abbrev pub unmet : History
unmet = record lone { groups = (0 ∷ 1 ∷ []) ∷ [] }

unmet_lines : lines_of unmet 0 ≡ Post 0 barrier [] ∷ WaitAll (0 ∷ []) ∷ []
unmet_lines = refl

abbrev pub with_another : Setting
with_another = record one_rank { groups = (0 ∷ 1 ∷ []) ∷ [] }

-- so a run stalls
abbrev pub UnmetBarrierStallsInSome : Type 0
UnmetBarrierStallsInSome = (hears : Hearing) → StallsInSomeBy hears unmet

-- of one rank's own barrier none does
abbrev pub LoneBarrierStallsInNone : Type 0
LoneBarrierStallsInNone = (hears : Hearing) → StallsInSomeBy hears lone → ⊥

-- of a job without ranks a run ends
abbrev pub EmptyJobEndsInSome : Type 0
EmptyJobEndsInSome = (hears : Hearing) → EndsInSomeBy hears beginning

-- of crossed barriers none does
abbrev pub CrossedBarriersEndInNone : Type 0
CrossedBarriersEndInNone = (hears : Hearing) → EndsInSomeBy hears crossed → ⊥
