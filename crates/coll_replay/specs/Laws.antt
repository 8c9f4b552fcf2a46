-- What a run that stalls, or one that ends, means for all runs.
use Rattle.coll_parser.specs.Histories.{History}
use Rattle.coll_verdict.specs.Stalls.{StallsNever}
use Rattle.coll_verdict.specs.Waiting.{Hearing, StallsAlwaysBy, StallsNeverBy}
use Rattle.coll_replay.specs.Witnesses.{EndsInSomeBy, StallsInSomeBy}

-- where a run stalls, it isn't so that none does, by these schedules, or with every library
pub record IsNotNever (hears : Hearing) (h : History) : Type 0 where
  pub here : StallsNeverBy hears h → ⊥
  pub anywhere : StallsNever h → ⊥

abbrev pub StallsIsNotNever : Type 0
StallsIsNotNever = (hears : Hearing) (h : History) → StallsInSomeBy hears h → IsNotNever hears h

-- where a run ends, it isn't so that each stalls
abbrev pub EndsIsNotAlways : Type 0
EndsIsNotAlways = (hears : Hearing) (h : History) → EndsInSomeBy hears h → StallsAlwaysBy hears h → ⊥
