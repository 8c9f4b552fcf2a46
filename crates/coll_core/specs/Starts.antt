-- What a start asks of the parts, and what it makes of them.
use Rattle.std.specs.Prelude.{◌≡◌, ◌<◌, ◌^◌, ℕ, suc, List, Some, None}
use Rattle.coll_kinds.specs.declared.ticket.Ticket.{Ticket}
use Rattle.coll_kinds.specs.Lengths.{lent}
use Rattle.coll_lists.specs.Moves.{moved_back}
use Rattle.coll_sched.specs.Points.{IsPoint, Over}
use Rattle.coll_arena.specs.declared.list_name.ListName.{ListName}
use Rattle.coll_arena.specs.ListNames.{number_of}
use Rattle.coll_arena.specs.Slots.{Slots}
use Rattle.coll_machine.specs.declared.key.Key.{Key}
use Rattle.coll_match.specs.Instances.{given, mail, size}
use Rattle.coll_refinement.specs.Engines.{IsJoined}
use Rattle.coll_refinement.specs.OneSlots.{OneSlot}
use Rattle.coll_refinement.specs.Requests.{Live, at, begun}
use Rattle.coll_refinement.specs.Shown.{Instances}
use Rattle.coll_refinement.specs.Sound.{Stands}
use Rattle.coll_core.specs.declared.request.Request.{Request}
use Rattle.coll_core.specs.Requests.{IsListOf, schedule, shown}

-- the instance of the request's next start
abbrev pub next_instance : Request → Key
next_instance x = at (shown x) x.starts

-- the request again at the first point of its schedule
pub record Begins (q r : Live) (buf : List ℕ) : Type 0 where
  pub is : r ≡ begun q (record { round = r.round; index = r.index; buf = buf })
  pub over : Over (schedule q) 0 0 r.round r.index
  pub point : IsPoint (schedule q) r.round r.index

-- the next start of the request has room, and is new to its member
pub record CanBegin (a : Slots Request) (m : Instances) (x : Request) : Type 0 where
  pub comm_in : x.comm < a.comms
  pub short : suc x.starts < 2 ^ 32
  pub room : x.plan.member < size m (next_instance x)
  pub new : given m (next_instance x) x.plan.member ≡ None

-- request x was started with these bytes, and lies where its first action puts it
pub record Begun (a b : Slots Request) (m n : Instances) (t : Ticket) (x : Request) (bytes buf : List ℕ) : Type 0 where
  pub to : Request
  pub list : ListName
  pub puts : OneSlot a b t.slot t.generation (lent x.plan.sig x.plan.n x.plan.member) (Some to) (number_of list)
  pub lists_is : b.lists ≡ moved_back t.slot (number_of list) a.lists
  pub onto : IsListOf x.comm list
  pub begins : Begins (shown x) (shown to) buf
  pub joined : IsJoined m n (next_instance x) x.plan.member t.slot bytes
  pub stands : Stands x.plan.n (mail m (next_instance x)) (number_of list) (shown to)
