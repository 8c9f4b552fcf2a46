-- The calls of an engine that makes the plans itself, in the machine's words, and how it refuses them.
use Rattle.std.specs.Prelude.{◌≡◌, ◌⊎◌, ◌<◌, ◌≤◌, ◌++◌, ℕ, nat_lt, List, [], ◌∷◌, length, drop, unwrap_or, Option, Some, is_some, option_map, true, None}
use Rattle.coll_kinds.specs.declared.refusal.Refusal.{Refusal}
use Rattle.coll_kinds.specs.declared.refusal.Refusal.TheVariants.{BadComm, BadLength, BadSignature, NoMemory, NotMember, Stale}
use Rattle.coll_kinds.specs.declared.signature.Signature.{Signature}
use Rattle.coll_kinds.specs.declared.ticket.Ticket.{Ticket}
use Rattle.coll_kinds.specs.Common.{broken, member_of}
use Rattle.coll_machine.specs.Common.{Call, Init, Planned, Post, Retire, Ticketed, MachineStep, StepsTo, first_of, refusal, unless, Runs, Setting}
use Rattle.coll_machine.specs.Common.{group, size, Machine, State}
use Rattle.coll_sched.specs.Schedules.{Parts as Schedule}
use Rattle.coll_plans.specs.Plans.{family}
use Rattle.coll_core.specs.Calls.{Refuses}
use Rattle.coll_core.specs.Phases.{about_in}
use Rattle.coll_core.specs.declared.about.About.{About}
use Rattle.coll_core.specs.declared.outcome.Outcome.{Outcome}
use Rattle.coll_complete.specs.Completing.{completion}
use Rattle.coll_complete.specs.Requests.{is_done, refusal_at}
use Rattle.coll_complete.specs.Starting.{Begun, RefusesAt}
use Rattle.coll_serial.specs.Lengths.{IsOutcomeLength}

-- the plan that the rank's member needs
abbrev pub planned_for : Setting → ℕ → ℕ → Signature → Planned
planned_for g rank comm sig =
    record { sig = sig; n = size g comm; member = unwrap_or (member_of rank (group g comm)) 0 }

-- and its schedule
abbrev pub schedule_for : Setting → ℕ → ℕ → Signature → Schedule
schedule_for g rank comm sig =
    let plan = planned_for g rank comm sig in
    family plan.sig plan.n plan.member

abbrev pub post_by : Setting → ℕ → ℕ → Signature → List ℕ → Call
post_by g rank comm sig bytes = Post rank comm (planned_for g rank comm sig) bytes

abbrev pub init_by : Setting → ℕ → ℕ → Signature → Call
init_by g rank comm sig = Init rank comm (planned_for g rank comm sig)

-- why no plan is made: what a post and an initialisation are refused with before all else
abbrev pub early_refusals : Setting → ℕ → ℕ → Signature → List (Option Refusal)
early_refusals g rank comm sig =
    unless (nat_lt comm (length g.groups)) (BadComm comm)
    ∷ unless (is_some (member_of rank (group g comm))) (NotMember rank)
    ∷ option_map BadSignature (broken sig (size g comm))
    ∷ []

abbrev pub early_refusal : Setting → ℕ → ℕ → Signature → Option Refusal
early_refusal g rank comm sig = first_of (early_refusals g rank comm sig)

-- the call makes this request, which may be Done at once,
abbrev pub PostsTo : Setting → Machine → Call → Machine → Option Ticket → Type 0
PostsTo g m call n None = ⊥
PostsTo g m call n (Some t) = StepsTo g m call (Ticketed t) n

-- or is Idle
abbrev pub InitsTo : Setting → Machine → Call → Machine → Option Ticket → Type 0
InitsTo g m call n None = ⊥
InitsTo g m call n (Some t) = MachineStep g m call (Ticketed t) n

-- the machine refuses the call so, or memory was refused
abbrev pub Denies : Setting → Machine → Call → Refusal → Type 0
Denies g m call why = Refuses g m call why ⊎ (why ≡ NoMemory)

-- the same of a start
abbrev pub DeniesStart : Setting → ℕ → Machine → Begun → Refusal → Type 0
DeniesStart g rank m begun why = RefusesAt g rank m begun why ⊎ (why ≡ NoMemory)

-- why no question on a request is answered: it is null or names none that is live, or names another rank's
abbrev pub naming_refusal : Setting → State → ℕ → Option Ticket → Option Refusal
naming_refusal g s rank None = Some Stale
naming_refusal g s rank (Some t) = refusal g s (Retire rank t)

-- what a request is
abbrev pub about_at : Machine → Option Ticket → Option About
about_at m None = None
about_at m (Some t) = about_in m t

-- bytes stand at the front of memory, whose rest is as before
abbrev pub Fills : List ℕ → List ℕ → List ℕ → Type 0
Fills old new bytes = new ≡ bytes ++ drop (length bytes) old

-- the request was completed, and its outcome is that many bytes, which stand in the memory
pub record Completes (g : Setting) (m : Machine) (rank : ℕ) (r : Option Ticket) (old : List ℕ) (count : ℕ) (new : List ℕ)
    (n : Machine) : Type 0 where
  pub outcome : Outcome
  pub runs : Runs g m (completion rank r outcome) n
  pub count_is : count ≡ length outcome.bytes
  pub room : count ≤ length old
  pub fills : Fills old new outcome.bytes

-- the request was completed, and its outcome isn't longer than the room
pub record Takes (g : Setting) (m : Machine) (rank : ℕ) (r : Option Ticket) (room : ℕ) (outcome : Outcome) (n : Machine) : Type 0 where
  pub runs : Runs g m (completion rank r outcome) n
  pub within : length outcome.bytes ≤ room

-- the request is Done, and there is room for fewer bytes than its outcome has
pub record IsShort (g : Setting) (m : Machine) (t : Ticket) (room : ℕ) (why : Refusal) : Type 0 where
  pub want : ℕ
  pub want_is : IsOutcomeLength g m.state t want
  pub done : is_done m (Some t) ≡ true
  pub is : why ≡ BadLength want room
  pub less : room < want

abbrev pub IsShortAt : Setting → Machine → Option Ticket → ℕ → Refusal → Type 0
IsShortAt g m None room why = ⊥
IsShortAt g m (Some t) room why = IsShort g m t room why

-- a test is refused as the machine refuses it, or, where it doesn't, for want of room
abbrev pub DeniesTest : Setting → Machine → ℕ → Option Ticket → ℕ → Refusal → Type 0
DeniesTest g m rank r room why = (refusal_at g m.state rank r ≡ Some why) ⊎ IsShortAt g m r room why
