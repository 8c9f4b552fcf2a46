use Rattle.std.proofs.Common.{◌≡◌, ◌++◌, ◌-◌}
use Rattle.coll_plans.specs.DirectExchange.{place, sends}
use Rattle.coll_plans.proofs.direct_exchange.Exchange.push_sends.Given as goal

-- the actions so far with those that remain are all
abbrev pub invariant-loop-p : goal.invariant-loop-p
invariant-loop-p l =
    l.round ++ sends l.self.pattern (place l.self.from) l.r l.p (l.self.n - l.p) ≡ l.initial.round ++ sends l.self.pattern (place l.self.from) l.r 0 l.self.n
