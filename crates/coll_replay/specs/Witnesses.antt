-- Some run of a job stalls, and some run comes to its end.
use Rattle.std.specs.Prelude.{◌≡◌}
use Rattle.coll_machine.specs.Common.{Setting}
use Rattle.coll_plans.specs.Hearings.{hears_here}
use Rattle.coll_parser.specs.Histories.{History}
use Rattle.coll_verdict.specs.Standings.{Standing, AtEnd}
use Rattle.coll_verdict.specs.Stalls.{lines_of}
use Rattle.coll_verdict.specs.Waiting.{Hearing, ReachesBy, IsStalledBy}

-- a run comes to where each rank is at its end or waits, not all at their ends, though whatever has heard is Done
pub record StallsInSomeBy (hears : Hearing) (h : History) : Type 0 where
  pub limits : Setting
  pub groups : limits.groups ≡ h.groups
  pub standing : Standing
  pub reached : ReachesBy hears limits (lines_of h) standing
  pub stalled : IsStalledBy hears limits (lines_of h) standing

-- a run comes to where all ranks are at their ends
pub record EndsInSomeBy (hears : Hearing) (h : History) : Type 0 where
  pub limits : Setting
  pub groups : limits.groups ≡ h.groups
  pub standing : Standing
  pub reached : ReachesBy hears limits (lines_of h) standing
  pub ended : AtEnd (lines_of h) standing

-- by this engine's schedules
abbrev pub StallsInSome : History → Type 0
StallsInSome h = StallsInSomeBy hears_here h

abbrev pub EndsInSome : History → Type 0
EndsInSome h = EndsInSomeBy hears_here h
