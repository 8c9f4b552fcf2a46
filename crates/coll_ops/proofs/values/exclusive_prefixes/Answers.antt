use Rattle.std.proofs.Common.{◌≡◌, ◌-◌, ◌<◌, List, ℕ, suc, length, take, ap, ◌∙◌, arith, rules, [], ◌∷◌, map, length-take}
use Rattle.std.specs.Prelude.{unwrap_or}
use Rattle.std.specs.List.{range_with_len}
use Rattle.coll_kinds.specs.declared.operation.Op.TheVariants.{Sum}
use Rattle.coll_ops.specs.Combinations.{combination}
use Rattle.coll_ops.specs.Contributions.{rows_of}
use Rattle.coll_ops.specs.Values.{row_of}
use Rattle.coll_ops.proofs.Given.{rows_of-take, row_of-take, length-take-lt}
use Rattle.coll_ops.proofs.RowLists.{length-rows_of}
use Rattle.coll_ops.proofs.Prefixes.{prefix, prefixes-exclusive}
use Rattle.coll_ops.proofs.values.exclusive_prefixes.Goals as goal

pub prefixes-requires-clause-long : goal.prefixes-requires-clause-long
prefixes-requires-clause-long c = λ i within.
    let rows : List (List ℕ) = rows_of c.args.rows.now in
    let k : ℕ = length c.args.rows.now - 1 in
    let front : rows_of (take k c.args.rows.now) ≡ take k rows = rows_of-take c.args.rows.now k in
    let at : i < length (take k rows) = omega (arith, within, ap length front, length-rows_of (take k c.args.rows.now)) in
    ap (λ front. length (row_of front i)) front
    ∙ (ap length (row_of-take rows k i at) ∙ c.requires.long i (omega (arith, length-take-lt rows k i at, length-rows_of c.args.rows.now)))

pub returns-clause-ok : goal.returns-clause-ok
returns-clause-ok c =
    let rows : List (List ℕ) = rows_of c.args.rows.now in
    let op = unwrap_or c.args.sig.op Sum in
    let k : ℕ = length c.args.rows.now - 1 in
    let some : 0 < length c.args.rows.now = search rules in
    let count : length (take k c.args.rows.now) ≡ k = simp length-take (omega arith) in
    let whole : suc k ≡ length c.args.rows.now = omega arith in
    ap rows_of c.in_ok-insert.ensures.items
    ∙ (ap (λ first. first ∷ rows_of c.in_ok-sums.sums.items) c.new-2.ensures.items
    ∙ (ap (λ rest. [] ∷ rest) (c.in_ok-sums.ensures.ok
    ∙ (ap (λ front. map (prefix op c.args.sig.ty front) (range_with_len 0 (length (take k c.args.rows.now)))) (rows_of-take c.args.rows.now k)
    ∙ ap (λ n. map (prefix op c.args.sig.ty (take k rows)) (range_with_len 0 n)) count))
    ∙ (prefixes-exclusive op c.args.sig.ty k rows
    ∙ ap (λ n. map (λ r. combination op c.args.sig.ty (take r rows)) (range_with_len 0 n)) whole)))
