-- What is out was read where its member stands in lock-step.
use Rattle.std.proofs.Common.{◌≡◌, ◌∙◌, ap, sym}
use Rattle.coll_sched.specs.declared.region.Region.{Region}
use Rattle.coll_sched.specs.Common.{Family, lock_step, read_of, filled}
use Rattle.coll_plans.specs.Plans.{family}
use Rattle.coll_match.specs.Instances.{given}
use Rattle.coll_refinement.proofs.engine.Statements.{AreOperands}
use Rattle.coll_refinement.specs.Requests.{key}
use Rattle.coll_core.specs.Cores.{IsCore, Parts}
use Rattle.coll_core.specs.LockSteps.{OfLockStep}
use Rattle.coll_core.specs.Requests.{shown}
use Rattle.coll_core.specs.Steps.{IsOut}
use Rattle.coll_core.specs.Works.{Piece}
use Rattle.coll_core.proofs.between.FirstOfReady.{running_acting}

pub of_lock_step : (p : Parts) → IsCore p → (w : Piece) → IsOut p w → OfLockStep p w
of_lock_step p core w out = record {
  request = out.request;
  left = out.stands.left;
  right = out.stands.right;
  into = out.stands.into;
  here = out.here;
  next_is = out.stands.next_is;
  left_is = sym out.stands.left_is ∙ (read.left_is ∙ at_round out.stands.left);
  right_is = sym out.stands.right_is ∙ (read.right_is ∙ at_round out.stands.right);
}
  where
    f : Family
    f = family out.request.plan.sig out.request.plan.n

    read : AreOperands f (given p.matches (key (shown out.request))) (shown out.request) out.stands.left out.stands.right
    read = (running_acting p core w.ticket.slot out.request out.here out.runs).operands w.op w.ty out.stands.left
        out.stands.right out.stands.into out.stands.next_is

    at_round : (region : Region)
        → read_of (lock_step f (filled f (given p.matches (key (shown out.request)))) out.request.round out.request.plan.member) region
        ≡ read_of (lock_step f (filled f (given p.matches (key (shown out.request)))) w.round out.request.plan.member) region
    at_round region =
        ap (λ j. read_of (lock_step f (filled f (given p.matches (key (shown out.request)))) j out.request.plan.member) region) out.stands.round_is
