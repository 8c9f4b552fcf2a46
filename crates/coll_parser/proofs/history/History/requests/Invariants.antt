use Rattle.std.proofs.Common.{◌≡◌, ℕ, length, take, drop, map}
use Rattle.std.specs.Prelude.{IfSome, slice_get, unwrap_or}
use Rattle.coll_parser.specs.Requests.{requests_of}
use Rattle.coll_parser.specs.Sound.{AreAllowed}
use Rattle.coll_parser.specs.Code.{request_view}
use Rattle.coll_parser.proofs.Soundly.{AreAll}
use Rattle.coll_parser.proofs.history.History.requests.Given as goal

abbrev pub invariant-loop-issued : goal.invariant-loop-issued
invariant-loop-issued l = record {
  count : length l.ranks.items ≡ unwrap_or l.self.ranks 0;
  made : (rank : ℕ) → IfSome (slice_get l.ranks.items rank)
      (λ requests. map request_view requests.items ≡ requests_of l.self.groups rank (take l.issued-index l.self.commands));
  allowed : AreAllowed (unwrap_or l.self.ranks 0) l.self.groups (take l.issued-index l.self.commands) (drop l.issued-index l.self.commands);
  all : AreAll l.self.groups (take l.issued-index l.self.commands);
}
