-- a direct exchange and local rounds are one exchange
use Rattle.std.proofs.Common.{◌≡◌, ℕ, zero, suc, ◌<◌, ◌≤◌, Bool, false, eqb, List, [], ◌∷◌, refl, ap, ◌∙◌, arith, eqb-true, ◌||◌}
use Rattle.std.proofs.lemmas.Bool.{cond_both}
use Rattle.std.specs.List.{AllByRecursion, list_any}
use Rattle.coll_sched.specs.declared.region.Region.{Region}
use Rattle.coll_sched.specs.declared.action.Action.{Action}
use Rattle.coll_sched.specs.Common.{has_peer, Family, family_exchanges}
use Rattle.coll_trees.specs.Columns.{Column, family_with}
use Rattle.coll_trees.proofs.Columns.{column_of, round-column, IsLocalColumn, Costs, free, local_round, exchange, few_exchanges, no_exchanges}
use Rattle.coll_plans.specs.declared.direct_pattern.Pattern.{Pattern}
use Rattle.coll_plans.specs.DirectExchange.{exchange_by}
use Rattle.coll_trees.specs.Depths.{direct_bound}
use Rattle.coll_plans.proofs.DirectExchange.{each_action}

none_has : (xs : List Action) → AllByRecursion (λ a. has_peer a ≡ false) xs → list_any has_peer xs ≡ false
none_has [] h = refl
none_has (x ∷ xs) h = ap (λ (b : Bool). b || list_any has_peer xs) h.0 ∙ none_has xs h.1

local_columns : (columns : List Column) (j r : ℕ) → AllByRecursion IsLocalColumn columns → list_any has_peer (column_of columns j r) ≡ false
local_columns [] j r h = refl
local_columns (c ∷ cs) zero r h = h.0 r
local_columns (c ∷ cs) (suc j) r h = local_columns cs j r h.1

local_costs : (columns : List Column) → AllByRecursion IsLocalColumn columns → Costs columns 0
local_costs [] h = free
local_costs (c ∷ cs) h = local_round h.0 (local_costs cs h.1)

-- one exchange, and none of a single member, where only local rounds follow
pub direct_few : (n : ℕ) (pattern : Pattern) (from into : ℕ → ℕ → Region) (size : ℕ → ℕ) (input output : ℕ → Region) (rest : List Column)
    → AllByRecursion IsLocalColumn rest → family_exchanges n (family_with size input output (exchange_by pattern from into n ∷ rest)) ≤ direct_bound n
direct_few n pattern from into size input output rest h = cond_both (eqb n 1) 0 1 (λ m. family_exchanges n f ≤ m)
    (λ e. no_exchanges n f (λ j r low. ap (list_any has_peer) (round-column (exchange_by pattern from into n ∷ rest) j r) ∙ alone (eqb-true n 1 e) j r low))
    (λ e. few_exchanges n 0 input output (exchange_by pattern from into n ∷ rest) 1 (exchange (local_costs rest h)))
  where
    f : Family
    f = family_with size input output (exchange_by pattern from into n ∷ rest)

    alone : n ≡ 1 → (j r : ℕ) → r < n → list_any has_peer (column_of (exchange_by pattern from into n ∷ rest) j r) ≡ false
    alone e zero r low = none_has (exchange_by pattern from into n r)
        (each_action n pattern from into (λ a. has_peer a ≡ false) r (λ p l d k. absurd (d (omega arith))) (λ k. refl) (λ q l d k. absurd (d (omega arith))))
    alone e (suc j) r low = local_columns rest j r h
