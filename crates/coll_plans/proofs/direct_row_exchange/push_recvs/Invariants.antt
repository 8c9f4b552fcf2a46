use Rattle.std.proofs.Common.{◌≡◌, ◌++◌, ◌-◌}
use Rattle.coll_kinds.specs.Lengths.{row_len, total}
use Rattle.coll_plans.specs.declared.direct_pattern.Pattern.TheVariants.{ToAll}
use Rattle.coll_plans.specs.DirectFamilies.{row_at}
use Rattle.coll_plans.specs.DirectExchange.{recvs}
use Rattle.coll_plans.proofs.direct_row_exchange.push_recvs.Given as goal

-- the next row begins where those before it end, and the actions so far with those that remain are all
abbrev pub invariant-loop-q : goal.invariant-loop-q
invariant-loop-q l =
    (l.at ≡ total (row_len l.sig) l.q)
    × (l.round ++ recvs ToAll (row_at (row_len l.sig)) l.r l.q (l.n - l.q) ≡ l.initial.round ++ recvs ToAll (row_at (row_len l.sig)) l.r 0 l.n)
