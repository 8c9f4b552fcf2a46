-- How many exchanges a collective takes
use Rattle.std.specs.Prelude.{ℕ, zero, suc, ◌==◌, ◌^◌, cond, nat_le}

-- the least d from k on with n ≤ 2 ^ d, or k + fuel
abbrev pub depth_from : ℕ → ℕ → ℕ → ℕ
depth_from zero k n = k
depth_from (suc fuel) k n = cond (nat_le n (2 ^ k)) k (depth_from fuel (suc k) n)

-- the least d with n ≤ 2 ^ d, for up to 64 members
unfoldable pub depth : ℕ → ℕ
depth n = depth_from 6 0 n

-- one exchange, in which members send straight to one another; none of a single member
abbrev pub direct_bound : ℕ → ℕ
direct_bound n = cond (n == 1) 0 1
