use Rattle.std.proofs.Common.{◌≡◌, ◌++◌, ◌-◌}
use Rattle.coll_plans.specs.declared.direct_pattern.Pattern.TheVariants.{ToAll}
use Rattle.coll_plans.specs.DirectExchange.{sends}
use Rattle.coll_plans.proofs.direct_row_exchange.push_sends.Given as goal

-- the actions so far with those that remain are all
abbrev pub invariant-loop-p : goal.invariant-loop-p
invariant-loop-p l = l.round ++ sends ToAll (λ p. l.own) l.r l.p (l.n - l.p) ≡ l.initial.round ++ sends ToAll (λ p. l.own) l.r 0 l.n
