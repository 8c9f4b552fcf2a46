-- How much of each there is in n members' schedules
use Rattle.std.specs.Prelude.{◌≡◌, ℕ, Bool, true, false, count_by, sum_by}
use Rattle.coll_sched.specs.declared.action.Action.{Action}
use Rattle.coll_sched.specs.declared.action.Action.TheVariants.{Send, Copy, Combine, Recv}
use Rattle.coll_sched.specs.Families.{Family, is_send, family_exchanges}
use Rattle.coll_draw.specs.declared.totals.DrawingTotals.{DrawingTotals}
use Rattle.coll_draw.specs.Drawings.{rounds_of, steps}

-- the action is a Combine
abbrev pub is_combine : Action → Bool
is_combine (Send to from) = false
is_combine (Copy from into) = false
is_combine (Combine op ty left right into) = true
is_combine (Recv of into) = false

-- the bytes that it sends
abbrev pub sent_len : Action → ℕ
sent_len (Send to from) = from.len
sent_len (Copy from into) = 0
sent_len (Combine op ty left right into) = 0
sent_len (Recv of into) = 0

-- all counts of a family of n members
pub record Counts (n : ℕ) (f : Family) (totals : DrawingTotals) : Type 0 where
  pub rounds_are : totals.rounds ≡ rounds_of f
  pub exchanges_are : totals.exchanges ≡ family_exchanges n f
  pub messages_are : totals.messages ≡ count_by (λ step. is_send step.action) (steps n f)
  pub bytes_are : totals.bytes ≡ sum_by (λ step. sent_len step.action) (steps n f)
  pub combinations_are : totals.combinations ≡ count_by (λ step. is_combine step.action) (steps n f)
