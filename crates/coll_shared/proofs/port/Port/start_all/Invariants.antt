use Rattle.std.proofs.Common.{◌≡◌, ◌+◌, take, vec_capacity, vec_len}
use Rattle.std.specs.List.{zip}
use Rattle.coll_complete.specs.Starting.{unused}
use Rattle.coll_shared.specs.Starts.{PushesStarts}
use Rattle.coll_shared.proofs.port.Port.start_all.Given as goal

abbrev pub invariant-loop-at : goal.invariant-loop-at
invariant-loop-at g l = record {
  rank : l.self.rank ≡ l.initial.self.rank;
  groups : l.self.groups ≡ l.initial.self.groups;
  made : l.self.made ≡ l.initial.self.made + l.at;
  given : l.given.items ≡ unused l.at l.initial.given.items;
  long : vec_len l.given ≡ vec_len l.initial.given;
  starts : PushesStarts l.initial.self.rank (take l.at (zip l.requests l.initial.given.items)) l.initial.receipts.items l.receipts.items;
  room : vec_capacity l.receipts ≡ vec_capacity l.initial.receipts;
  shown : vec_len l.receipts ≡ vec_len l.initial.receipts + l.at;
}
