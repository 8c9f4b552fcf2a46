use Rattle.std.proofs.Common.{◌≡◌, take, vec_len}
use Rattle.std.specs.List.{zip}
use Rattle.coll_complete.specs.Starting.{StartsAll, unused}
use Rattle.coll_complete.proofs.starting.start_all_on.Given as goal

abbrev pub invariant-loop-at : goal.invariant-loop-at
invariant-loop-at g l = record {
  set : g.C.Requests.setting l.core ≡ g.C.Requests.setting l.initial.core;
  starts : StartsAll (g.C.Requests.setting l.initial.core) l.rank (g.C.Requests.machine l.initial.core)
      (take l.at (zip l.requests l.initial.given.items)) (g.C.Requests.machine l.core);
  given : l.given.items ≡ unused l.at l.initial.given.items;
  long : vec_len l.given ≡ vec_len l.initial.given;
}
