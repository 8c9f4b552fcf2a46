use Rattle.std.proofs.Common.{◌≡◌, ◌+◌, ◌≤◌, vec_capacity, vec_len}
use Rattle.coll_complete.specs.Completing.{Pushes}
use Rattle.coll_complete.proofs.Sweeps.{Swept, swept_list}
use Rattle.coll_complete.proofs.completing.complete_all.Given as goal

abbrev pub invariant-loop-position : goal.invariant-loop-position
invariant-loop-position g l = record {
  set : g.C.Requests.setting l.core ≡ g.C.Requests.setting l.initial.core;
  requests : l.requests ≡ swept_list (g.C.Requests.machine l.initial.core) l.initial.requests l.position;
  room : vec_len l.out ≤ vec_len l.initial.out + l.position;
  capacity : vec_capacity l.out ≡ vec_capacity l.initial.out;
  pushes : Pushes l.initial.out.items l.out.items
      (Swept l.rank l.initial.requests (g.C.Requests.machine l.initial.core) (g.C.Requests.machine l.core) l.position
      (λ es. g.C.Requests.Did l.initial.core l.initial.own es l.core l.own));
}
