-- The greatest power of two that n members reach are the corners of a hypercube. Each corner stands for one
-- member, or for two neighbours where there are more members than corners, and its lowest member acts for it;
-- corners stand in member order.
use Rattle.std.specs.Prelude.{ℕ, zero, suc, ◌+◌, ◌-◌, ◌/◌, ◌%◌, ◌^◌, ◌==◌, cond, nat_lt}
use Rattle.coll_plans.specs.declared.recursive_doubling_fold.FoldPart.{FoldPart}
use Rattle.coll_plans.specs.declared.recursive_doubling_fold.FoldPart.TheVariants.{Lower, Upper, Alone}

-- the least k from here on with n < 2 ^ suc k, or k + fuel
abbrev pub dimension_from : ℕ → ℕ → ℕ → ℕ
dimension_from zero k n = k
dimension_from (suc fuel) k n = cond (nat_lt n (2 ^ suc k)) k (dimension_from fuel (suc k) n)

-- the greatest k with 2 ^ k ≤ n, for 1 to 64 members
unfoldable pub dimension : ℕ → ℕ
dimension n = dimension_from 6 0 n

-- how many corners stand for two members: the first ones
abbrev pub extra : ℕ → ℕ
extra n = n - 2 ^ dimension n

-- member r, where the first e corners stand for two members
abbrev pub fold_part : ℕ → ℕ → FoldPart
fold_part e r = cond (nat_lt r (e + e)) (cond (r % 2 == 0) Lower Upper) Alone

-- the corner that stands for member r
abbrev pub corner : ℕ → ℕ → ℕ
corner e r = cond (nat_lt r (e + e)) (r / 2) (r - e)

-- the lowest member of corner q
abbrev pub lowest : ℕ → ℕ → ℕ
lowest e q = cond (nat_lt q e) (q + q) (q + e)

-- the corner at distance s = 2 ^ k across dimension k: its number differs in bit k alone
abbrev pub across : ℕ → ℕ → ℕ
across q s = cond (nat_lt (q % (s + s)) s) (q + s) (q - s)

-- with whom member r exchanges there
abbrev pub mate : ℕ → ℕ → ℕ → ℕ
mate e s r = lowest e (across (corner e r) s)
