-- Allreduce by recursive doubling in member order (MPI 4.1, 6.9.6): the odd member of each pair folds, it gives its row
-- to the even one below. Then the corners of a hypercube exchange across one dimension after the other, and after k
-- steps each holds the combination of the rows of its 2 ^ k neighbours. At last the lower members of the pairs send it to the upper ones.
use Rattle.std.specs.Prelude.{ℕ, zero, suc, ◌+◌, ◌-◌, ◌%◌, ◌^◌, ◌==◌, cond, nat_lt, List, [], ◌∷◌, ◌++◌, unwrap_or}
use Rattle.coll_kinds.specs.declared.operation.Op.{Op}
use Rattle.coll_kinds.specs.declared.operation.Op.TheVariants.{Sum}
use Rattle.coll_kinds.specs.declared.datatype.Datatype.{Datatype}
use Rattle.coll_kinds.specs.declared.signature.Signature.{Signature}
use Rattle.coll_kinds.specs.Lengths.{block_len}
use Rattle.coll_sched.specs.declared.action.Action.{Action}
use Rattle.coll_sched.specs.declared.action.Action.TheVariants.{Send, Combine, Recv}
use Rattle.coll_sched.specs.Common.{Family, front, behind}
use Rattle.coll_trees.specs.Columns.{Column, family_of}
use Rattle.coll_plans.specs.declared.recursive_doubling_fold.FoldPart.{FoldPart}
use Rattle.coll_plans.specs.declared.recursive_doubling_fold.FoldPart.TheVariants.{Lower, Upper, Alone}
use Rattle.coll_plans.specs.RecursiveDoublingHypercube.{dimension, extra, fold_part, corner, mate}

-- the fold: the upper member of a pair, which is odd, gives its row
abbrev pub fold_gives : ℕ → ℕ → FoldPart → List Action
fold_gives b r Lower = Recv (r + 1) (behind b) ∷ []
fold_gives b r Upper = Send (r - 1) (front b) ∷ []
fold_gives b r Alone = []

-- which the lower one combines as the right operand of its own
abbrev pub fold_joins : Op → Datatype → ℕ → FoldPart → List Action
fold_joins op ty b Lower = Combine op ty (front b) (behind b) (front b) ∷ []
fold_joins op ty b Upper = []
fold_joins op ty b Alone = []

-- what a corner holds goes to member p, and what p holds comes
abbrev pub swap : ℕ → ℕ → List Action
swap b p = Send p (front b) ∷ Recv p (behind b) ∷ []

-- so do all but the upper members of pairs
abbrev pub exchanges : ℕ → ℕ → FoldPart → List Action
exchanges b p Lower = swap b p
exchanges b p Upper = []
exchanges b p Alone = swap b p

-- what came of a higher corner joins as the right operand, of a lower one as the left
abbrev pub joined : Op → Datatype → ℕ → ℕ → ℕ → List Action
joined op ty b q s =
    cond (nat_lt (q % (s + s)) s)
    (Combine op ty (front b) (behind b) (front b) ∷ [])
    (Combine op ty (behind b) (front b) (front b) ∷ [])

abbrev pub joins_by : Op → Datatype → ℕ → ℕ → ℕ → FoldPart → List Action
joins_by op ty b q s Lower = joined op ty b q s
joins_by op ty b q s Upper = []
joins_by op ty b q s Alone = joined op ty b q s

-- the upper member of a pair gets the result
abbrev pub tells : ℕ → ℕ → FoldPart → List Action
tells b r Lower = Send (r + 1) (front b) ∷ []
tells b r Upper = Recv (r - 1) (front b) ∷ []
tells b r Alone = []

-- these rounds, where the first e corners stand for two members
abbrev pub give : ℕ → ℕ → Column
give b e r = fold_gives b r (fold_part e r)

abbrev pub pair_up : Op → Datatype → ℕ → ℕ → Column
pair_up op ty b e r = fold_joins op ty b (fold_part e r)

abbrev pub exchange_at : ℕ → ℕ → ℕ → Column
exchange_at b e s r = exchanges b (mate e s r) (fold_part e r)

abbrev pub exchange_joins : Op → Datatype → ℕ → ℕ → ℕ → Column
exchange_joins op ty b e s r = joins_by op ty b (corner e r) s (fold_part e r)

abbrev pub tell : ℕ → ℕ → Column
tell b e r = tells b r (fold_part e r)

-- c exchanges of two rounds each, the first at distance 2 ^ k
abbrev pub hypercube_rounds : Op → Datatype → ℕ → ℕ → ℕ → ℕ → List Column
hypercube_rounds op ty b e k zero = []
hypercube_rounds op ty b e k (suc c) = exchange_at b e (2 ^ k) ∷ exchange_joins op ty b e (2 ^ k) ∷ hypercube_rounds op ty b e (suc k) c

-- all rounds, for a hypercube of d dimensions
abbrev pub recursive_doubling : Op → Datatype → ℕ → ℕ → ℕ → List Column
recursive_doubling op ty b e d = give b e ∷ pair_up op ty b e ∷ (hypercube_rounds op ty b e 0 d ++ (tell b e ∷ []))

abbrev pub allreduce_family : Signature → ℕ → Family
allreduce_family sig n =
    family_of (block_len sig + block_len sig) (λ r. front (block_len sig)) (λ r. front (block_len sig))
    (recursive_doubling (unwrap_or sig.op Sum) sig.ty (block_len sig) (extra n) (dimension n))

-- the most exchanges: one for each dimension, and two more where some corner stands for two members
abbrev pub most_trades : ℕ → ℕ
most_trades n = cond (n == 2 ^ dimension n) (dimension n) (dimension n + 2)
