-- What a member's schedule has it do: the messages that it sends, their bytes, and the pieces that it combines.
use Rattle.std.specs.Prelude.{List, count_by, map, flat_map, sum}
use Rattle.coll_sched.specs.declared.action.Action.{Action}
use Rattle.coll_sched.specs.Families.{is_send}
use Rattle.coll_draw.specs.Counts.{is_combine, sent_len}
use Rattle.coll_views.specs.declared.work.MessageCounts.{MessageCounts}

-- the actions of all rounds
abbrev pub actions_in : List (List Action) → List Action
actions_in rounds = flat_map (λ actions. actions) rounds

-- the work of these rounds
abbrev pub work_in : List (List Action) → MessageCounts
work_in rounds = record {
  messages = count_by is_send (actions_in rounds);
  bytes = sum (map sent_len (actions_in rounds));
  combinations = count_by is_combine (actions_in rounds);
}
