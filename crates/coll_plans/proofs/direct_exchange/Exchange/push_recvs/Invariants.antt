use Rattle.std.proofs.Common.{◌≡◌, ◌++◌, ◌-◌}
use Rattle.coll_plans.specs.DirectExchange.{place, recvs}
use Rattle.coll_plans.proofs.direct_exchange.Exchange.push_recvs.Given as goal

-- the actions so far with those that remain are all
abbrev pub invariant-loop-q : goal.invariant-loop-q
invariant-loop-q l =
    l.round ++ recvs l.self.pattern (place l.self.into) l.r l.q (l.self.n - l.q) ≡ l.initial.round ++ recvs l.self.pattern (place l.self.into) l.r 0 l.self.n
