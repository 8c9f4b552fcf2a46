use Rattle.std.proofs.Common.{◌≡◌, map, ℕ, List, Vec, Global}
use Rattle.coll_queues.specs.Sound.{AreAgreed}
use Rattle.coll_queues.proofs.Comms.{Unposted}
use Rattle.coll_queues.proofs.queues.Queues.open.Given as goal

abbrev pub invariant-loop-group : goal.invariant-loop-group
invariant-loop-group l = record {
  groups : ◌≡◌ {A = List (List ℕ)} (map (λ m. m.group) l.comms.items) (map (λ (g : Vec ℕ Global). g.items) l.yielded);
  agreed : AreAgreed l.comms.items;
  unposted : Unposted l.comms.items;
}
