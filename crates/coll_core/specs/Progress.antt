-- What calls that are no steps leave alone: the progress of all requests but their own.
use Rattle.std.specs.Prelude.{◌≡◌, ◌≢◌, ◌+◌, ◌==◌, ℕ}
use Rattle.coll_sched.specs.Points.{remaining}
use Rattle.coll_sched.specs.Schedules.{Parts as Schedule}
use Rattle.coll_core.specs.Cores.{Parts, seen}
use Rattle.coll_core.specs.Steps.{MovesOne, left, running}

-- one slot moves; what is handed out stays so, and as many actions are left
pub record KeepsProgress (p r : Parts) (slot : ℕ) : Type 0 where
  pub moves : MovesOne p r slot
  pub running_is : running r ≡ running p
  pub left_is : left r ≡ left p

-- the slot's request begins a schedule: all its actions are left, and it is Done at once exactly where there are none;
-- nobody else becomes Done
pub record BeginsSchedule (p r : Parts) (slot : ℕ) (schedule : Schedule) : Type 0 where
  pub moves : MovesOne p r slot
  pub running_is : running r ≡ running p
  pub left_is : left r ≡ left p + remaining schedule 0 0
  pub done_is : (seen r).done slot ≡ (remaining schedule 0 0 == 0)
  pub others_done : (other : ℕ) → other ≢ slot → (seen r).done other ≡ (seen p).done other
