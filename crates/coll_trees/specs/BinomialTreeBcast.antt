-- From the root to all by a binomial tree: in the step at distance s the members numbered below s from the root on pass
-- their block on to the member s further
use Rattle.std.specs.Prelude.{ℕ, zero, suc, ◌+◌, ◌-◌, ◌^◌, cond, nat_le, nat_lt, List, [], ◌∷◌}
use Rattle.coll_sched.specs.declared.action.Action.{Action}
use Rattle.coll_sched.specs.declared.action.Action.TheVariants.{Send, Recv}
use Rattle.coll_trees.specs.declared.binomial_tree_bcast_step.BcastStep.{BcastStep}
use Rattle.coll_trees.specs.declared.binomial_tree_bcast_step.BcastStep.TheVariants.{SendsToChild, ReceivesFromParent, Idles}
use Rattle.coll_trees.specs.Columns.{Column}
use Rattle.coll_sched.specs.Regions.{front}

-- member r's number, counted round from the root
abbrev pub from_root : ℕ → ℕ → ℕ → ℕ
from_root n root r = cond (nat_le root r) (r - root) (r + n - root)

-- the member with that number
abbrev pub member_at : ℕ → ℕ → ℕ → ℕ
member_at n root v = cond (nat_lt (v + root) n) (v + root) (v + root - n)

-- what the member with number v does at distance s
abbrev pub bcast_step : ℕ → ℕ → ℕ → BcastStep
bcast_step n v s = cond (nat_lt v s) (cond (nat_lt (v + s) n) SendsToChild Idles) (cond (nat_lt v (s + s)) ReceivesFromParent Idles)

-- the round of the member with number v in the step at distance s
abbrev pub hop : ℕ → ℕ → ℕ → ℕ → ℕ → BcastStep → List Action
hop b n root v s SendsToChild = Send (member_at n root (v + s)) (front b) ∷ []
hop b n root v s ReceivesFromParent = Recv (member_at n root (v - s)) (front b) ∷ []
hop b n root v s Idles = []

-- the step at distance s
abbrev pub bcast_tree_at : ℕ → ℕ → ℕ → ℕ → Column
bcast_tree_at b n root s r = hop b n root (from_root n root r) s (bcast_step n (from_root n root r) s)

-- c steps, the first at distance 2 ^ k
abbrev pub bcast_tree_rounds : ℕ → ℕ → ℕ → ℕ → ℕ → List Column
bcast_tree_rounds b n root k zero = []
bcast_tree_rounds b n root k (suc c) = bcast_tree_at b n root (2 ^ k) ∷ bcast_tree_rounds b n root (suc k) c
