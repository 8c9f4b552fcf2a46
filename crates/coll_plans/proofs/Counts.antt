-- How many actions a member of each family has
use Rattle.std.proofs.Common.{◌≡◌, ℕ, zero, suc, ◌+◌, ◌-◌, ◌*◌, ◌%◌, ◌^◌, ◌≤◌, ◌&&◌, ◌||◌, cond, eqb, leb, ltb, Bool, true, false, None, [], ◌∷◌}
use Rattle.std.proofs.Common.{◌++◌, length, unwrap_or, arith, eqb-true, leb-true, length-append, mul-le-mul}
use Rattle.std.proofs.lemmas.Bool.{and_parts, cond_both}
use Rattle.coll_kinds.specs.declared.kind.Kind.{Kind}
use Rattle.coll_kinds.specs.declared.kind.Kind.TheVariants.{Barrier, Bcast, Gather, Scatter, Allgather, Allgatherv, Alltoall, Reduce, Allreduce}
use Rattle.coll_kinds.specs.declared.kind.Kind.TheVariants.{Rsblock, Scan, Exscan}
use Rattle.coll_kinds.specs.declared.operation.Op.{Op}
use Rattle.coll_kinds.specs.declared.operation.Op.TheVariants.{Sum}
use Rattle.coll_kinds.specs.declared.datatype.Datatype.{Datatype}
use Rattle.coll_kinds.specs.declared.datatype.Datatype.TheVariants.{I8, I16, I32, I64, U8, U16, U32, U64, Byte, Pair}
use Rattle.coll_kinds.specs.Common.{width, broken, has_counts, is_barrier, block_len, row_len}
use Rattle.coll_kinds.specs.Checks.{counts_fit, one_count_fits}
use Rattle.coll_kinds.specs.declared.signature.Signature.{Signature}
use Rattle.coll_sched.specs.declared.region.Region.{Region}
use Rattle.coll_sched.specs.declared.action.Action.{Action}
use Rattle.coll_sched.specs.Points.{remaining}
use Rattle.coll_trees.specs.Columns.{Column}
use Rattle.coll_trees.specs.Depths.{depth}
use Rattle.coll_trees.specs.BinomialTreeBcast.{from_root}
use Rattle.coll_trees.specs.Trees.{bcast_family}
use Rattle.coll_trees.specs.BinomialTreeReduce.{reduce_tree_rounds, last_hop}
use Rattle.coll_trees.proofs.BinomialTreeActions.{all_in, all_in-append, cond-few, reduce_tree_rounds-few, last_hop-few, bcast_tree_rounds-few}
use Rattle.coll_trees.proofs.Checked.{checked}
use Rattle.coll_plans.specs.declared.direct_blocks.Blocks.{Blocks}
use Rattle.coll_plans.specs.declared.recursive_doubling_fold.FoldPart.{FoldPart}
use Rattle.coll_plans.specs.declared.recursive_doubling_fold.FoldPart.TheVariants.{Lower, Upper, Alone}
use Rattle.coll_plans.specs.declared.direct_pattern.Pattern.{Pattern}
use Rattle.coll_plans.specs.declared.direct_pattern.Pattern.TheVariants.{ToAll, ToRoot, FromRoot}
use Rattle.coll_plans.specs.DisseminationBarrier.{barrier_rounds}
use Rattle.coll_plans.specs.PrefixDoubling.{doubling, join, join_both, receipt, shift}
use Rattle.coll_plans.specs.BruckAllgather.{bruck_rounds}
use Rattle.coll_plans.specs.DirectExchange.{alike, carries, chosen, exchange_by, keeps, recvs, sends}
use Rattle.coll_plans.specs.DirectFamilies.{blocks_from, combines_below, one_block, own_row, row_at}
use Rattle.coll_plans.specs.RecursiveDoublingHypercube.{corner, dimension, extra, mate, fold_part}
use Rattle.coll_plans.specs.RecursiveDoubling.{recursive_doubling, give, fold_gives, joins_by, pair_up, fold_joins, tell, tells, exchange_at}
use Rattle.coll_plans.specs.RecursiveDoubling.{exchange_joins, exchanges, hypercube_rounds}
use Rattle.coll_plans.specs.ChainBcast.{chain_family, is_long, is_passing, receipt_of, relay_count, relay_of, relaying, segment_count}
use Rattle.coll_plans.specs.Plans.{family_by, most_actions}
use Rattle.coll_plans.proofs.RecursiveDoublingHypercube.{dimension-most}

receipt-few : (b s r : ℕ) → length (receipt b s r) ≤ 1
receipt-few b s r = cond-few (leb s r) _ [] 1 (omega arith) (omega arith)

shift-few : (b n s r : ℕ) → length (shift b n s r) ≤ 2
shift-few b n s r =
    let rest : length (receipt b s r) ≤ 1 = receipt-few b s r in
    cond-few (ltb (r + s) n) _ (receipt b s r) 2 (omega arith) (omega arith)

join-few : (op : Op) (ty : Datatype) (b s r : ℕ) → length (join op ty b s r) ≤ 2
join-few op ty b s r = cond-few (leb s r) _ [] 2 (omega arith) (omega arith)

join_both-few : (op : Op) (ty : Datatype) (b s r : ℕ) → length (join_both op ty b s r) ≤ 2
join_both-few op ty b s r = cond-few (leb s r) _ [] 2 (omega arith) (omega arith)

doubling-few : (b n : ℕ) (second : ℕ → Column) → ((s r : ℕ) → length (second s r) ≤ 2) → (k c r : ℕ) → all_in (doubling b n second k c) r ≤ 4 * c
doubling-few b n second few k zero r = omega arith
doubling-few b n second few k (suc c) r =
    let first : length (shift b n (2 ^ k) r) ≤ 2 = shift-few b n (2 ^ k) r in
    let then : length (second (2 ^ k) r) ≤ 2 = few (2 ^ k) r in
    let rest : all_in (doubling b n second (suc k) c) r ≤ 4 * c = doubling-few b n second few (suc k) c r in
    omega arith

barrier_rounds-few : (n k c r : ℕ) → all_in (barrier_rounds n k c) r ≤ c + c
barrier_rounds-few n k zero r = omega arith
barrier_rounds-few n k (suc c) r = let rest : all_in (barrier_rounds n (suc k) c) r ≤ c + c = barrier_rounds-few n (suc k) c r in omega arith

-- of an allgather, two in each round
bruck_rounds-few : (b n k c r : ℕ) → all_in (bruck_rounds b n k c) r ≤ c + c + 2
bruck_rounds-few b n k zero r = omega arith
bruck_rounds-few b n k (suc c) r = let rest : all_in (bruck_rounds b n (suc k) c) r ≤ c + c + 2 = bruck_rounds-few b n (suc k) c r in omega arith

chosen-few : (pick : ℕ → Bool) (act : ℕ → Action) (k c : ℕ) → length (chosen pick act k c) ≤ c
chosen-few pick act k zero = omega arith
chosen-few pick act k (suc c) =
    let rest : length (chosen pick act (suc k) c) ≤ c = chosen-few pick act (suc k) c in
    cond-few (pick k) _ (chosen pick act (suc k) c) (suc c) (omega arith) (omega arith)

exchange-few : (pattern : Pattern) (from into : ℕ → ℕ → Region) (n r : ℕ) → length (exchange_by pattern from into n r) ≤ n + n + 1
exchange-few pattern from into n r =
    let out : length (sends pattern (from r) r 0 n) ≤ n = chosen-few _ _ 0 n in
    let own : length (keeps pattern (from r) (into r) r) ≤ 1 = cond-few (carries pattern r r) _ [] 1 (omega arith) (omega arith) in
    let back : length (recvs pattern (into r) r 0 n) ≤ n = chosen-few _ _ 0 n in
    omega (
      arith,
      length-append (sends pattern (from r) r 0 n)
          (keeps pattern (from r) (into r) r ++ recvs pattern (into r) r 0 n),
      length-append (keeps pattern (from r) (into r) r) (recvs pattern (into r) r 0 n),
    )

combines_below-few : (op : Op) (ty : Datatype) (blocks : Blocks) (k r : ℕ) → all_in (combines_below op ty blocks k) r ≤ k
combines_below-few op ty blocks zero r = omega arith
combines_below-few op ty blocks (suc k) r = let rest : all_in (combines_below op ty blocks k) r ≤ k = combines_below-few op ty blocks k r in omega arith

alone : (column : Column) (r most : ℕ) → length (column r) ≤ most → all_in (column ∷ []) r ≤ most
alone column r most few = omega arith

-- of an allreduce
fold_gives-few : (b r : ℕ) (o : FoldPart) → length (fold_gives b r o) ≤ 1
fold_gives-few b r Lower = omega arith
fold_gives-few b r Upper = omega arith
fold_gives-few b r Alone = omega arith

fold_joins-few : (op : Op) (ty : Datatype) (b : ℕ) (o : FoldPart) → length (fold_joins op ty b o) ≤ 1
fold_joins-few op ty b Lower = omega arith
fold_joins-few op ty b Upper = omega arith
fold_joins-few op ty b Alone = omega arith

exchanges-few : (b p : ℕ) (o : FoldPart) → length (exchanges b p o) ≤ 2
exchanges-few b p Lower = omega arith
exchanges-few b p Upper = omega arith
exchanges-few b p Alone = omega arith

joins_by-few : (op : Op) (ty : Datatype) (b q s : ℕ) (o : FoldPart) → length (joins_by op ty b q s o) ≤ 1
joins_by-few op ty b q s Lower = cond-few (ltb (q % (s + s)) s) _ _ 1 (omega arith) (omega arith)
joins_by-few op ty b q s Upper = omega arith
joins_by-few op ty b q s Alone = cond-few (ltb (q % (s + s)) s) _ _ 1 (omega arith) (omega arith)

tells-few : (b r : ℕ) (o : FoldPart) → length (tells b r o) ≤ 1
tells-few b r Lower = omega arith
tells-few b r Upper = omega arith
tells-few b r Alone = omega arith

hypercube_rounds-few : (op : Op) (ty : Datatype) (b e k c r : ℕ) → all_in (hypercube_rounds op ty b e k c) r ≤ 3 * c
hypercube_rounds-few op ty b e k zero r = omega arith
hypercube_rounds-few op ty b e k (suc c) r =
    let first : length (exchange_at b e (2 ^ k) r) ≤ 2 = exchanges-few b (mate e (2 ^ k) r) (fold_part e r) in
    let then : length (exchange_joins op ty b e (2 ^ k) r) ≤ 1 = joins_by-few op ty b (corner e r) (2 ^ k) (fold_part e r) in
    let rest : all_in (hypercube_rounds op ty b e (suc k) c) r ≤ 3 * c = hypercube_rounds-few op ty b e (suc k) c r in
    omega arith

recursive_doubling-few : (op : Op) (ty : Datatype) (b e d r : ℕ) → all_in (recursive_doubling op ty b e d) r ≤ 3 * d + 3
recursive_doubling-few op ty b e d r =
    let first : length (give b e r) ≤ 1 = fold_gives-few b r (fold_part e r) in
    let then : length (pair_up op ty b e r) ≤ 1 = fold_joins-few op ty b (fold_part e r) in
    let last : all_in (tell b e ∷ []) r ≤ 1 = alone (tell b e) r 1 (tells-few b r (fold_part e r)) in
    let all : all_in (hypercube_rounds op ty b e 0 d ++ (tell b e ∷ [])) r ≡ all_in (hypercube_rounds op ty b e 0 d) r + all_in (tell b e ∷ []) r =
    all_in-append (hypercube_rounds op ty b e 0 d) (tell b e ∷ []) r in
    let exchanges : all_in (hypercube_rounds op ty b e 0 d) r ≤ 3 * d = hypercube_rounds-few op ty b e 0 d r in
    omega arith

-- of a long bcast, whose block has at most 32 segments
receipt_of-few : (b n root j v : ℕ) → length (receipt_of b n root j v) ≤ 1
receipt_of-few b n root j v = cond-few (ltb 0 v && is_passing n (segment_count b) j (v - 1)) _ [] 1 (omega arith) (omega arith)

relay_of-few : (b n root j v : ℕ) → length (relay_of b n root j v) ≤ 2
relay_of-few b n root j v =
    let rest : length (receipt_of b n root j v) ≤ 1 = receipt_of-few b n root j v in
    cond-few (is_passing n (segment_count b) j v) _ (receipt_of b n root j v) 2 (omega arith) (omega arith)

relaying-few : (b n root k c r : ℕ) → all_in (relaying b n root k c) r ≤ c + c
relaying-few b n root k zero r = omega arith
relaying-few b n root k (suc c) r =
    let first : length (relay_of b n root k (from_root n root r)) ≤ 2 = relay_of-few b n root k (from_root n root r) in
    let rest : all_in (relaying b n root (suc k) c) r ≤ c + c = relaying-few b n root (suc k) c r in
    omega arith

width-most : (ty : Datatype) → width ty ≤ 8
width-most I8 = omega arith
width-most I16 = omega arith
width-most I32 = omega arith
width-most I64 = omega arith
width-most U8 = omega arith
width-most U16 = omega arith
width-most U32 = omega arith
width-most U64 = omega arith
width-most Byte = omega arith
width-most Pair = omega arith

count_is-most : (none : Bool) (count : ℕ) → cond none (eqb count 0) (leb count 65536) ≡ true → count ≤ 65536
count_is-most true count h = let e : count ≡ 0 = eqb-true count 0 h in omega arith
count_is-most false count h = leb-true count 65536 h

block_len-most : (sig : Signature) (n : ℕ) → broken sig n ≡ None → block_len sig ≤ 524288
block_len-most sig n h =
    mul-le-mul (count_is-most (is_barrier sig.kind || has_counts sig.kind) sig.count
    (and_parts (one_count_fits sig) (counts_fit sig.each sig.kind n) (checked sig n h).count_is).0) (width-most sig.ty)

-- the actions of each kind's schedules
pub short_by : (k : Kind) (sig : Signature) (n : ℕ) → broken sig n ≡ None → n ≤ 64 → depth n ≤ 6 → (r : ℕ) → remaining (family_by k sig n r) 0 0 ≤ most_actions
short_by Barrier sig n h few d r = omega (arith, barrier_rounds-few n 0 (depth n) r)
short_by Bcast sig n h few d r =
    cond_both (is_long n (block_len sig)) (chain_family sig n) (bcast_family sig n) (λ f. remaining (f r) 0 0 ≤ most_actions)
    (λ e. let short : block_len sig ≤ 524288 =
    block_len-most sig n h in omega (arith, relaying-few (block_len sig) n sig.root 0 (relay_count n (block_len sig)) r))
    (λ e. omega (arith, bcast_tree_rounds-few (block_len sig) n sig.root 0 (depth n) r))
short_by Gather sig n h few d r =
    omega (arith, exchange-few (ToRoot sig.root) (alike (one_block (block_len sig))) (alike (blocks_from (block_len sig) (block_len sig))) n r)
short_by Scatter sig n h few d r =
    omega (arith, exchange-few (FromRoot sig.root) (alike (blocks_from (block_len sig) (block_len sig))) (alike (one_block (block_len sig))) n r)
short_by Allgather sig n h few d r = omega (arith, bruck_rounds-few (block_len sig) n 0 (depth n) r)
short_by Allgatherv sig n h few d r = omega (arith, exchange-few ToAll (λ q p. own_row (row_len sig) n q) (λ q p. row_at (row_len sig) p) n r)
short_by Alltoall sig n h few d r =
    omega (arith, exchange-few ToAll (alike (blocks_from 0 (block_len sig))) (alike (blocks_from (n * block_len sig) (block_len sig))) n r)
short_by Reduce sig n h few d r =
    omega (
      arith,
      all_in-append (reduce_tree_rounds (unwrap_or sig.op Sum) sig.ty (block_len sig) n 0 (depth n)) (last_hop (block_len sig) sig.root ∷ []) r,
      reduce_tree_rounds-few (unwrap_or sig.op Sum) sig.ty (block_len sig) n 0 (depth n) r,
      alone (last_hop (block_len sig) sig.root) r 1 (last_hop-few (block_len sig) sig.root r),
    )
short_by Allreduce sig n h few d r =
    let most : dimension n ≤ 6 = dimension-most n in
    omega (arith, recursive_doubling-few (unwrap_or sig.op Sum) sig.ty (block_len sig) (extra n) (dimension n) r)
short_by Rsblock sig n h few d r =
    omega (
      arith,
      exchange-few ToAll (alike (blocks_from 0 (block_len sig))) (alike (blocks_from (n * block_len sig) (block_len sig))) n r,
      combines_below-few (unwrap_or sig.op Sum) sig.ty (blocks_from (n * block_len sig) (block_len sig)) (n - 1) r,
    )
short_by Scan sig n h few d r =
    omega (
      arith,
      doubling-few (block_len sig) n (join (unwrap_or sig.op Sum) sig.ty (block_len sig))
          (join-few (unwrap_or sig.op Sum) sig.ty (block_len sig)) 0 (depth n) r,
    )
short_by Exscan sig n h few d r =
    omega (
      arith,
      doubling-few (block_len sig) n (join_both (unwrap_or sig.op Sum) sig.ty (block_len sig))
          (join_both-few (unwrap_or sig.op Sum) sig.ty (block_len sig)) 0 (depth n) r,
    )
