-- The groups of a configuration that was tested.
use Rattle.std.proofs.Common.{◌≡◌, ℕ, zero, suc, All, List, [], ◌∷◌, Vec, Global, sym, subst, arith}
use Rattle.std.proofs.lemmas.List.Elements.{All-head, All-tail}
use Rattle.coll_kinds.specs.Groups.{IsGroup}
use Rattle.coll_machine.specs.Settings.{group_in}
use Rattle.coll_core.specs.declared.config.Config.{Config}
use Rattle.coll_core.specs.Communicators.{AreFew, groups_seen}
use Rattle.coll_core.specs.Configs.{IsConfig, IsFullGroup}

nobody : (n : ℕ) → IsGroup n []
nobody n = record {
  few = omega arith;
  below = λ m low. absurd (omega (arith, low));
  found = λ m low. absurd (omega (arith, low));
}

-- at each number there is a group: where there is no communicator, one of nobody
pub are_groups : (n : ℕ) (groups : List (Vec ℕ Global))
    → All (λ (group : Vec ℕ Global). IsFullGroup n group.items) groups
    → (comm : ℕ) → IsGroup n (group_in (groups_seen groups) comm)
are_groups n [] all comm = nobody n
are_groups n (group ∷ rest) all zero = (All-head (λ (group : Vec ℕ Global). IsFullGroup n group.items) group rest all).is_group
are_groups n (group ∷ rest) all (suc comm) =
    are_groups n rest (All-tail (λ (group : Vec ℕ Global). IsFullGroup n group.items) group rest all) comm

pub few_of : (config : Config) (groups : List (Vec ℕ Global))
    → IsConfig config → groups_seen groups ≡ groups_seen config.groups.items → AreFew (groups_seen groups)
few_of config groups fits same =
    subst AreFew (sym same) (λ comm. (are_groups config.ranks config.groups.items fits.groups.2 comm).few)
