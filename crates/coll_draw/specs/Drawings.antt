-- What is drawn of n members' schedules: each message as an arrow, and what each member does in its own buffer
use Rattle.std.specs.Prelude.{◌≡◌, ◌<◌, ◌≤◌, ℕ, List, Option, Some, None, length, map, filter_map, flat_map}
use Rattle.coll_kinds.specs.declared.signature.Signature.{Signature}
use Rattle.coll_kinds.specs.Checks.{broken}
use Rattle.coll_sched.specs.declared.action.Action.{Action}
use Rattle.coll_sched.specs.declared.action.Action.TheVariants.{Send, Copy, Combine, Recv}
use Rattle.coll_sched.specs.Families.{Family, actions_at, members, family_exchanges}
use Rattle.coll_plans.specs.Plans.{family}
use Rattle.coll_draw.specs.declared.arrow.Arrow.{Arrow}
use Rattle.coll_draw.specs.declared.mark.Mark.{Mark}
use Rattle.coll_draw.specs.declared.step.DrawnAction.{DrawnAction}

-- an action of a member in a round
abbrev pub step_of : ℕ → ℕ → Action → DrawnAction
step_of round member action = record { round = round; member = member; action = action }

-- how many rounds the schedules of a family have
abbrev pub rounds_of : Family → ℕ
rounds_of f = length (f 0).rounds

-- the actions of n members in round j, member by member
abbrev pub round_steps : ℕ → Family → ℕ → List DrawnAction
round_steps n f j = flat_map (λ r. map (step_of j r) (actions_at f j r)) (members 0 n)

-- the actions of n members, round by round
abbrev pub steps : ℕ → Family → List DrawnAction
steps n f = flat_map (round_steps n f) (members 0 (rounds_of f))

-- the message of a Send
abbrev pub sent_by : ℕ → ℕ → Action → Option Arrow
sent_by round member (Send to from) =
    Some (record { round = round; sender = member; receiver = to; len = from.len })
sent_by round member (Copy from into) = None
sent_by round member (Combine op ty left right into) = None
sent_by round member (Recv of into) = None

abbrev pub arrow_of : DrawnAction → Option Arrow
arrow_of step = sent_by step.round step.member step.action

-- a Combine
abbrev pub combined_by : ℕ → ℕ → Action → Option Mark
combined_by round member (Send to from) = None
combined_by round member (Copy from into) = None
combined_by round member (Combine op ty left right into) =
    Some (record { round = round; member = member; len = into.len })
combined_by round member (Recv of into) = None

abbrev pub combination_of : DrawnAction → Option Mark
combination_of step = combined_by step.round step.member step.action

-- a Copy
abbrev pub copied_by : ℕ → ℕ → Action → Option Mark
copied_by round member (Send to from) = None
copied_by round member (Copy from into) = Some (record { round = round; member = member; len = into.len })
copied_by round member (Combine op ty left right into) = None
copied_by round member (Recv of into) = None

abbrev pub copy_of : DrawnAction → Option Mark
copy_of step = copied_by step.round step.member step.action

-- all messages, combinations and copies of n members
abbrev pub arrows : ℕ → Family → List Arrow
arrows n f = filter_map arrow_of (steps n f)

abbrev pub combinations : ℕ → Family → List Mark
combinations n f = filter_map combination_of (steps n f)

abbrev pub copies : ℕ → Family → List Mark
copies n f = filter_map copy_of (steps n f)

-- what a drawing has
pub record Drawn : Type 0 where
  pub sig : Signature
  pub n : ℕ
  pub round_count : ℕ
  pub exchange_count : ℕ
  pub arrows : List Arrow
  pub combinations : List Mark
  pub copies : List Mark

-- it shows the family of a checked signature and of n members: all of it, and nothing else
pub record IsDrawing (d : Drawn) : Type 0 where
  pub checked : broken d.sig d.n ≡ None
  pub not_none : 0 < d.n
  pub few : d.n ≤ 64
  pub rounds_are : d.round_count ≡ rounds_of (family d.sig d.n)
  pub exchanges_are : d.exchange_count ≡ family_exchanges d.n (family d.sig d.n)
  pub arrows_are : d.arrows ≡ arrows d.n (family d.sig d.n)
  pub combinations_are : d.combinations ≡ combinations d.n (family d.sig d.n)
  pub copies_are : d.copies ≡ copies d.n (family d.sig d.n)
