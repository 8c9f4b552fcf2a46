-- How many actions a member of a tree has
use Rattle.std.proofs.Common.{◌≡◌, ℕ, zero, suc, ◌+◌, ◌^◌, ◌≤◌, cond, eqb, Bool, true, false, List, [], ◌∷◌, ◌++◌, length, arith}
use Rattle.coll_kinds.specs.declared.operation.Op.{Op}
use Rattle.coll_kinds.specs.declared.datatype.Datatype.{Datatype}
use Rattle.coll_sched.specs.declared.action.Action.{Action}
use Rattle.coll_sched.specs.Points.{left_in}
use Rattle.coll_trees.specs.declared.binomial_tree_bcast_step.BcastStep.{BcastStep}
use Rattle.coll_trees.specs.declared.binomial_tree_bcast_step.BcastStep.TheVariants.{SendsToChild, ReceivesFromParent, Idles}
use Rattle.coll_trees.specs.declared.binomial_tree_reduce_step.ReduceStep.{ReduceStep}
use Rattle.coll_trees.specs.declared.binomial_tree_reduce_step.ReduceStep.TheVariants.{SendsToParent, ReceivesFromChild, Rests}
use Rattle.coll_trees.specs.Columns.{Column, rounds_of}
use Rattle.coll_trees.specs.BinomialTreeBcast.{from_root, hop, bcast_tree_rounds, bcast_step}
use Rattle.coll_trees.specs.BinomialTreeReduce.{combines, reduce_tree_rounds, last_hop, moves, reduce_step}

-- all actions of member r in these rounds
abbrev pub all_in : List Column → ℕ → ℕ
all_in columns r = left_in (rounds_of columns r) 0 0

pub all_in-append : (xs ys : List Column) (r : ℕ) → all_in (xs ++ ys) r ≡ all_in xs r + all_in ys r
all_in-append [] ys r = omega arith
all_in-append (x ∷ xs) ys r = let e : all_in (xs ++ ys) r ≡ all_in xs r + all_in ys r = all_in-append xs ys r in omega arith

pub cond-few : (b : Bool) (xs ys : List Action) (most : ℕ) → length xs ≤ most → length ys ≤ most → length (cond b xs ys) ≤ most
cond-few true xs ys most x y = x
cond-few false xs ys most x y = y

hop-few : (b n root v s : ℕ) (w : BcastStep) → length (hop b n root v s w) ≤ 1
hop-few b n root v s SendsToChild = omega arith
hop-few b n root v s ReceivesFromParent = omega arith
hop-few b n root v s Idles = omega arith

pub bcast_tree_rounds-few : (b n root k c r : ℕ) → all_in (bcast_tree_rounds b n root k c) r ≤ c
bcast_tree_rounds-few b n root k zero r = omega arith
bcast_tree_rounds-few b n root k (suc c) r =
    let first : length (hop b n root (from_root n root r) (2 ^ k) (bcast_step n (from_root n root r) (2 ^ k))) ≤ 1 =
    hop-few b n root (from_root n root r) (2 ^ k) (bcast_step n (from_root n root r) (2 ^ k)) in
    let rest : all_in (bcast_tree_rounds b n root (suc k) c) r ≤ c = bcast_tree_rounds-few b n root (suc k) c r in
    omega arith

moves-few : (b r s : ℕ) (part : ReduceStep) → length (moves b r s part) ≤ 1
moves-few b r s SendsToParent = omega arith
moves-few b r s ReceivesFromChild = omega arith
moves-few b r s Rests = omega arith

combines-few : (op : Op) (ty : Datatype) (b : ℕ) (part : ReduceStep) → length (combines op ty b part) ≤ 1
combines-few op ty b SendsToParent = omega arith
combines-few op ty b ReceivesFromChild = omega arith
combines-few op ty b Rests = omega arith

pub reduce_tree_rounds-few : (op : Op) (ty : Datatype) (b n k c r : ℕ) → all_in (reduce_tree_rounds op ty b n k c) r ≤ c + c
reduce_tree_rounds-few op ty b n k zero r = omega arith
reduce_tree_rounds-few op ty b n k (suc c) r =
    let first : length (moves b r (2 ^ k) (reduce_step n r (2 ^ k))) ≤ 1 = moves-few b r (2 ^ k) (reduce_step n r (2 ^ k)) in
    let second : length (combines op ty b (reduce_step n r (2 ^ k))) ≤ 1 = combines-few op ty b (reduce_step n r (2 ^ k)) in
    let rest : all_in (reduce_tree_rounds op ty b n (suc k) c) r ≤ c + c = reduce_tree_rounds-few op ty b n (suc k) c r in
    omega arith

pub last_hop-few : (b root r : ℕ) → length (last_hop b root r) ≤ 1
last_hop-few b root r =
    cond-few (eqb root 0) [] _ 1 (omega arith) (cond-few (eqb r 0) _ _ 1 (omega arith) (cond-few (eqb r root) _ [] 1 (omega arith) (omega arith)))
