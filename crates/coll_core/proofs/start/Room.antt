-- Room for a start.
use Rattle.std.proofs.Common.{◌≡◌, ◌∙◌, ◌<◌, ℕ, List, length, Some, ap, sym, subst}
use Rattle.std.specs.Prelude.{IfSome}
use Rattle.coll_kinds.specs.Lengths.{given_len}
use Rattle.coll_match.specs.Instances.{size as room_of}
use Rattle.coll_sched.specs.Schedules.{Parts as Schedule}
use Rattle.coll_arena.specs.Slots.{home, record_in}
use Rattle.coll_machine.specs.Settings.{size}
use Rattle.coll_refinement.specs.Shown.{Instances, listed}
use Rattle.coll_core.specs.declared.request.Request.{Request}
use Rattle.coll_core.specs.Cores.{IsCore, Parts, setting}
use Rattle.coll_core.specs.Requests.{schedule, shown}
use Rattle.coll_core.specs.Starts.{next_instance}
use Rattle.coll_core.proofs.retire.Retire.{if_some, the_one}
use Rattle.coll_core.proofs.between.LiveRequests.{live, member_in, planned}

pub takes_in : (p : Parts) (i : ℕ) (x : Request) (bytes : List ℕ) (s : Schedule) → IsCore p → record_in p.arena i ≡ Some x
    → IfSome (record_in p.arena i) (λ x. length bytes ≡ given_len x.plan.sig x.plan.n x.plan.member)
    → s ≡ schedule (shown x) → length bytes ≡ s.input.len
takes_in p i x bytes s core found long is =
    the_one (λ x. length bytes ≡ given_len x.plan.sig x.plan.n x.plan.member) (record_in p.arena i) x found long
    ∙ sym (ap (λ (s : Schedule). s.input.len) is ∙ (planned p i x core found).serves.takes_given x.plan.member (member_in p i x core found))

module _ (p : Parts) (i many : ℕ) (x : Request) (core : IsCore p) (found : record_in p.arena i ≡ Some x) (many_is : many ≡ x.plan.n) where
  pub size_is : many ≡ size (setting p) x.comm
  size_is = many_is ∙ core.sound.sound.base.sized i (listed (home p.arena i) (shown x)) (live p i x found)

  pub has_room : (n : Instances) → many ≡ room_of n (next_instance x) → IfSome (record_in p.arena i) (λ x. x.plan.member < room_of n (next_instance x))
  has_room n room =
      if_some (λ x. x.plan.member < room_of n (next_instance x)) (record_in p.arena i) x found
      (subst (λ s. x.plan.member < s) (sym many_is ∙ room) (member_in p i x core found))
