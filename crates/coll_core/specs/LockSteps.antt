-- The operands of a combination that is handed out.
use Rattle.std.specs.Prelude.{◌≡◌, Some}
use Rattle.coll_sched.specs.declared.action.Action.TheVariants.{Combine}
use Rattle.coll_sched.specs.declared.region.Region.{Region}
use Rattle.coll_sched.specs.Common.{lock_step, read_of, filled}
use Rattle.coll_plans.specs.Plans.{family}
use Rattle.coll_arena.specs.Slots.{record_in}
use Rattle.coll_match.specs.Instances.{given}
use Rattle.coll_refinement.specs.Requests.{key}
use Rattle.coll_core.specs.declared.request.Request.{Request}
use Rattle.coll_core.specs.Cores.{Parts}
use Rattle.coll_core.specs.Requests.{next_of, shown}
use Rattle.coll_core.specs.Works.{Piece}

-- they are what its member has, in lock-step over all that was given to its start, in the two regions that its action
-- reads
pub record OfLockStep (p : Parts) (w : Piece) : Type 0 where
  pub request : Request
  pub left : Region
  pub right : Region
  pub into : Region
  pub here : record_in p.arena w.ticket.slot ≡ Some request
  pub next_is : next_of (shown request) ≡ Some (Combine w.op w.ty left right into)
  pub left_is :
      w.left
      ≡ read_of
      (lock_step (family request.plan.sig request.plan.n)
      (filled (family request.plan.sig request.plan.n) (given p.matches (key (shown request))))
      w.round request.plan.member)
      left
  pub right_is :
      w.right
      ≡ read_of
      (lock_step (family request.plan.sig request.plan.n)
      (filled (family request.plan.sig request.plan.n) (given p.matches (key (shown request))))
      w.round request.plan.member)
      right
