-- From all to member 0 by a binomial tree: in the step at distance s a member that is an odd multiple of s
-- gives what it holds to the member s below, the right operand of its own. So each holds a range of
-- neighbours, in ascending order.
use Rattle.std.specs.Prelude.{ℕ, zero, suc, ◌+◌, ◌-◌, ◌%◌, ◌^◌, ◌==◌, ◌&&◌, nat_lt, cond, List, [], ◌∷◌}
use Rattle.coll_kinds.specs.declared.operation.Op.{Op}
use Rattle.coll_kinds.specs.declared.datatype.Datatype.{Datatype}
use Rattle.coll_sched.specs.declared.action.Action.{Action}
use Rattle.coll_sched.specs.declared.action.Action.TheVariants.{Send, Combine, Recv}
use Rattle.coll_trees.specs.declared.binomial_tree_reduce_step.ReduceStep.{ReduceStep}
use Rattle.coll_trees.specs.declared.binomial_tree_reduce_step.ReduceStep.TheVariants.{SendsToParent, ReceivesFromChild, Rests}
use Rattle.coll_trees.specs.Columns.{Column}
use Rattle.coll_sched.specs.Regions.{front, behind}

-- what member r of n does at distance s
abbrev pub reduce_step : ℕ → ℕ → ℕ → ReduceStep
reduce_step n r s = cond (r % (s + s) == s) SendsToParent (cond ((r % (s + s) == 0) && nat_lt (r + s) n) ReceivesFromChild Rests)

-- the round in which blocks move
abbrev pub moves : ℕ → ℕ → ℕ → ReduceStep → List Action
moves b r s SendsToParent = Send (r - s) (front b) ∷ []
moves b r s ReceivesFromChild = Recv (r + s) (behind b) ∷ []
moves b r s Rests = []

-- the round in which what was taken is combined, as the right operand, with what the member has
abbrev pub combines : Op → Datatype → ℕ → ReduceStep → List Action
combines op ty b SendsToParent = []
combines op ty b ReceivesFromChild = Combine op ty (front b) (behind b) (front b) ∷ []
combines op ty b Rests = []

-- the first round of the step at distance s
abbrev pub move_at : ℕ → ℕ → ℕ → Column
move_at b n s r = moves b r s (reduce_step n r s)

-- the second
abbrev pub combine_at : Op → Datatype → ℕ → ℕ → ℕ → Column
combine_at op ty b n s r = combines op ty b (reduce_step n r s)

-- c steps of two rounds each, the first at distance 2 ^ k
abbrev pub reduce_tree_rounds : Op → Datatype → ℕ → ℕ → ℕ → ℕ → List Column
reduce_tree_rounds op ty b n k zero = []
reduce_tree_rounds op ty b n k (suc c) = move_at b n (2 ^ k) ∷ combine_at op ty b n (2 ^ k) ∷ reduce_tree_rounds op ty b n (suc k) c

-- what member 0 holds goes to the root
abbrev pub last_hop : ℕ → ℕ → Column
last_hop b root r =
    cond (root == 0) [] (cond (r == 0) (Send root (front b) ∷ []) (cond (r == root) (Recv 0 (front b) ∷ []) []))
