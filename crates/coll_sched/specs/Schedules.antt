-- One member's schedule: a buffer and rounds of actions on it
use Rattle.std.specs.Prelude.{ℕ, Bool, true, false, List, count_by}
use Rattle.std.specs.List.{AllByRecursion, list_any}
use Rattle.coll_sched.specs.declared.region.Region.{Region}
use Rattle.coll_sched.specs.declared.action.Action.{Action}
use Rattle.coll_sched.specs.declared.action.Action.TheVariants.{Send, Copy, Combine, Recv}
use Rattle.coll_sched.specs.Regions.{Inside}
use Rattle.coll_sched.specs.Actions.{Fits, EachFollows}

-- what a schedule consists of: its buffer's bytes, where the contribution is laid,
-- where the outcome lies, and its rounds
pub record Parts : Type 0 where
  pub size : ℕ
  pub input : Region
  pub output : Region
  pub rounds : List (List Action)

-- one round over a buffer of this size
pub record IsRound (size : ℕ) (actions : List Action) : Type 0 where
  pub fits : AllByRecursion (Fits size) actions
  pub follows : EachFollows actions

-- one member's schedule by itself
pub record IsSchedule (p : Parts) : Type 0 where
  pub input_inside : Inside p.size p.input
  pub output_inside : Inside p.size p.output
  pub each_round : AllByRecursion (IsRound p.size) p.rounds

-- a Send or a Recv
abbrev pub has_peer : Action → Bool
has_peer (Send to from) = true
has_peer (Copy from into) = false
has_peer (Combine op ty left right into) = false
has_peer (Recv of into) = true

-- the rounds with a Send or a Recv
abbrev pub exchanges : List (List Action) → ℕ
exchanges rounds = count_by (list_any has_peer) rounds
