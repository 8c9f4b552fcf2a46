-- What a post and an initialisation hand in, in the machine's words.
use Rattle.std.specs.Prelude.{◌≡◌, ◌<◌, ℕ, List, length, Option}
use Rattle.coll_kinds.specs.declared.refusal.Refusal.{Refusal}
use Rattle.coll_plans.specs.Plans.{Planned as Plan, family}
use Rattle.coll_queues.specs.Postings.{Postings, HasRoom, place_of}
use Rattle.coll_machine.specs.declared.key.Key.{Key}
use Rattle.coll_match.specs.Instances as instances
use Rattle.coll_machine.specs.Common.{Call, Planned, Post, Init, refusal}
use Rattle.coll_sched.specs.Families.{laid_in}
use Rattle.coll_core.specs.declared.offer.Offer.{Offer}
use Rattle.coll_core.specs.Cores.{Parts, seen, setting}

-- a plan as the machine has it
abbrev pub planned : Plan → Planned
planned p = record { sig = p.sig; n = p.n; member = p.member }

-- the calls
abbrev pub post_of : ℕ → ℕ → Offer → Call
post_of rank comm offer = Post rank comm (planned offer.plan) offer.bytes

abbrev pub init_of : ℕ → ℕ → Plan → Call
init_of rank comm plan = Init rank comm (planned plan)

-- why a call is refused where the engine stands so
abbrev pub refused_in : Parts → Call → Option Refusal
refused_in p call = refusal (setting p) (seen p).state call

-- the instance of a rank's next place
abbrev pub next_instance : Postings → ℕ → ℕ → Key
next_instance q rank comm = record { comm = comm; place = place_of q comm rank; start = 0 }

-- there is room for all that a post takes
pub record IsRoomy (p : Parts) (rank comm : ℕ) (plan : Plan) : Type 0 where
  pub posting : HasRoom p.queues comm rank
  pub sharing : plan.member < instances.size p.matches (next_instance p.queues rank comm)

-- the buffer of the plan's schedule with what is given laid in, if that has the right length
abbrev pub IsLaid : Offer → List ℕ → Type 0
IsLaid offer buffer =
    length offer.bytes ≡ (family offer.plan.sig offer.plan.n offer.plan.member).input.len
    → buffer ≡ laid_in (family offer.plan.sig offer.plan.n offer.plan.member) offer.bytes
