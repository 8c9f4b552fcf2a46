use Rattle.std.proofs.Common.{◌≡◌, ℕ, suc, ◌+◌, ◌*◌, ◌-◌, ◌<◌, ◌≤◌, List, length, take, map, arith, ap, sym, ◌∙◌, refl, []}
use Rattle.std.specs.Prelude.{unwrap_or}
use Rattle.std.specs.List.{flat_map}
use Rattle.std.proofs.Math.Nat.{mul-le-mul_right, mul_assoc}
use Rattle.coll_kinds.specs.declared.operation.Op.TheVariants.{Sum}
use Rattle.coll_kinds.specs.declared.kind.Kind.TheVariants.{Bcast, Gather, Scatter, Allgather, Allgatherv, Reduce, Allreduce, Rsblock, Scan, Exscan}
use Rattle.coll_kinds.specs.Common.{width, block_len}
use Rattle.coll_ops.specs.Combinations.{combination}
use Rattle.coll_ops.specs.Contributions.{rows_of}
use Rattle.coll_ops.specs.Values.{part, row_of, all_rows}
use Rattle.coll_ops.proofs.Blocks.{combination-parts}
use Rattle.coll_ops.proofs.Given.{IfOk-map, value-kind, length-given, if-equal, root-row, blocks-around, part-whole, map-part_whole}
use Rattle.coll_ops.proofs.Given.{flat_map-part_whole, rows_of-take, row_of-take, length-take-lt}
use Rattle.coll_ops.proofs.value.plain_value.Goals as goal

pub part-requires : goal.part-requires
part-requires c =
    let row = root-row c.args.sig Bcast c.args.n c.args.given.now c.from-root.result c.index-given-root.result c.in-Bcast.is refl
    c.requires.checked c.requires.given c.from-root.ensures c.index-given-root.is in
    let long : length c.index-given-root.result.items ≡ block_len c.args.sig = row.0 ∙ if-equal c.args.sig.root c.args.sig.root (block_len c.args.sig) 0 refl in
    omega (arith, long, c.block_len-block.ensures)

pub returns-in_ok-from_slice-in-Bcast-clause-ok : goal.returns-in_ok-from_slice-in-Bcast-clause-ok
returns-in_ok-from_slice-in-Bcast-clause-ok c =
    let row = root-row c.args.sig Bcast c.args.n c.args.given.now c.from-root.result c.index-given-root.result c.in-Bcast.is refl
    c.requires.checked c.requires.given c.from-root.ensures c.index-given-root.is in
    let long : length c.index-given-root.result.items ≡ c.block_len-block.result =
    row.0 ∙ (if-equal c.args.sig.root c.args.sig.root (block_len c.args.sig) 0 refl ∙ sym c.block_len-block.ensures) in
    c.in_ok-from_slice-in-Bcast.ensures.items
    ∙ (c.part.ensures ∙ (part-whole c.block_len-block.result c.index-given-root.result.items long
    ∙ (row.1 ∙ sym (value-kind c.args.sig Bcast (rows_of c.args.given.now) c.args.r c.in-Bcast.is))))

pub part-requires-in-Scatter : goal.part-requires-in-Scatter
part-requires-in-Scatter c =
    let row = root-row c.args.sig Scatter c.args.n c.args.given.now c.from-root.result c.index-given-root-in-Scatter.result
    c.in-Scatter.is refl c.requires.checked c.requires.given c.from-root.ensures c.index-given-root-in-Scatter.is in
    let long : length c.index-given-root-in-Scatter.result.items ≡ c.args.n * block_len c.args.sig =
    row.0 ∙ if-equal c.args.sig.root c.args.sig.root (c.args.n * block_len c.args.sig) 0 refl in
    let member : suc c.args.r ≤ c.args.n = c.requires.member in
    rw (c.from.ensures, c.block_len-block.ensures) (omega (arith, long, mul-le-mul_right (block_len c.args.sig) member))

pub returns-in_ok-from_slice-in-Scatter-clause-ok : goal.returns-in_ok-from_slice-in-Scatter-clause-ok
returns-in_ok-from_slice-in-Scatter-clause-ok c =
    let row = root-row c.args.sig Scatter c.args.n c.args.given.now c.from-root.result c.index-given-root-in-Scatter.result
    c.in-Scatter.is refl c.requires.checked c.requires.given c.from-root.ensures c.index-given-root-in-Scatter.is in
    let block_is : part (c.from.result * c.block_len-block.result) c.block_len-block.result c.index-given-root-in-Scatter.result.items
    ≡ part (c.args.r * block_len c.args.sig) (block_len c.args.sig) (row_of (rows_of c.args.given.now) c.args.sig.root) =
    rw (c.from.ensures, c.block_len-block.ensures, row.1) refl in
    c.in_ok-from_slice-in-Scatter.ensures.items
    ∙ (c.part-in-Scatter.ensures ∙ (block_is ∙ sym (value-kind c.args.sig Scatter (rows_of c.args.given.now) c.args.r c.in-Scatter.is)))

pub returns-then-r-sig-clause-ok : goal.returns-then-r-sig-clause-ok
returns-then-r-sig-clause-ok c =
    let rows : List (List ℕ) = rows_of c.args.given.now in
    let whole : flat_map (part 0 c.block_len-block.result) rows ≡ all_rows rows =
    flat_map-part_whole c.block_len-block.result rows
    (λ i within. length-given c.args.sig Gather c.args.n rows c.in-Gather.is c.requires.given i (omega (arith, c.requires.given.each))
    ∙ sym c.block_len-block.ensures) in
    IfOk-map _ _ (λ bytes is. is ∙ (whole ∙ (sym (if-equal c.args.r c.args.sig.root (all_rows rows) [] c.if-r-sig.true)
    ∙ sym (value-kind c.args.sig Gather rows c.args.r c.in-Gather.is)))) c.joined.result c.joined.ensures.ok

pub returns-in-Allgather-clause-ok : goal.returns-in-Allgather-clause-ok
returns-in-Allgather-clause-ok c =
    let rows : List (List ℕ) = rows_of c.args.given.now in
    let whole : flat_map (part 0 c.block_len-block.result) rows ≡ all_rows rows =
    flat_map-part_whole c.block_len-block.result rows
    (λ i within. length-given c.args.sig Allgather c.args.n rows c.in-Allgather.is c.requires.given i (omega (arith, c.requires.given.each))
    ∙ sym c.block_len-block.ensures) in
    IfOk-map _ _ (λ bytes is. is ∙ (whole ∙ sym (value-kind c.args.sig Allgather rows c.args.r c.in-Allgather.is)))
    c.joined-in-Allgather.result c.joined-in-Allgather.ensures.ok

pub returns-in-Allgatherv-clause-ok : goal.returns-in-Allgatherv-clause-ok
returns-in-Allgatherv-clause-ok c =
    let rows : List (List ℕ) = rows_of c.args.given.now in
    IfOk-map _ _ (λ bytes is. is ∙ sym (value-kind c.args.sig Allgatherv rows c.args.r c.in-Allgatherv.is)) c.whole.result c.whole.ensures.ok

pub returns-then-r-sig-2-clause-ok : goal.returns-then-r-sig-2-clause-ok
returns-then-r-sig-2-clause-ok c =
    let rows : List (List ℕ) = rows_of c.args.given.now in
    let op = unwrap_or c.args.sig.op Sum in
    let whole : map (part 0 (block_len c.args.sig)) rows ≡ rows =
    map-part_whole (block_len c.args.sig) rows
    (λ i within. length-given c.args.sig Reduce c.args.n rows c.in-Reduce.is c.requires.given i (omega (arith, c.requires.given.each))) in
    IfOk-map _ _ (λ bytes is. is ∙ (ap (combination op c.args.sig.ty) whole
    ∙ (sym (if-equal c.args.r c.args.sig.root (combination op c.args.sig.ty rows) [] c.if-r-sig-2.true)
    ∙ sym (value-kind c.args.sig Reduce rows c.args.r c.in-Reduce.is)))) c.combined.result c.combined.ensures.ok

pub returns-in-Allreduce-clause-ok : goal.returns-in-Allreduce-clause-ok
returns-in-Allreduce-clause-ok c =
    let rows : List (List ℕ) = rows_of c.args.given.now in
    let op = unwrap_or c.args.sig.op Sum in
    let whole : map (part 0 (block_len c.args.sig)) rows ≡ rows =
    map-part_whole (block_len c.args.sig) rows
    (λ i within. length-given c.args.sig Allreduce c.args.n rows c.in-Allreduce.is c.requires.given i (omega (arith, c.requires.given.each))) in
    IfOk-map _ _ (λ bytes is. is ∙ (ap (combination op c.args.sig.ty) whole
    ∙ sym (value-kind c.args.sig Allreduce rows c.args.r c.in-Allreduce.is))) c.combined-in-Allreduce.result c.combined-in-Allreduce.ensures.ok

pub returns-in-Rsblock-clause-ok : goal.returns-in-Rsblock-clause-ok
returns-in-Rsblock-clause-ok c =
    let rows : List (List ℕ) = rows_of c.args.given.now in
    let op = unwrap_or c.args.sig.op Sum in
    let w : ℕ = width c.args.sig.ty in
    let count : ℕ = c.args.sig.count in
    let at_is : c.from.result * c.block_len-block.result ≡ (c.args.r * count) * w =
    rw (c.from.ensures, c.block_len-block.ensures) (sym (mul_assoc c.args.r count w)) in
    let some : 0 < length rows = omega (arith, c.requires.given.each) in
    let long : (i : ℕ) → i < length rows → length (row_of rows i) ≡ (c.args.r * count + (count + (c.args.n - (c.args.r + 1)) * count)) * w =
    λ i within. length-given c.args.sig Rsblock c.args.n rows c.in-Rsblock.is c.requires.given i (omega (arith, c.requires.given.each))
    ∙ sym (blocks-around c.args.r c.args.n count w c.requires.member) in
    IfOk-map _ _ (λ bytes is. is ∙ (ap (λ at. combination op c.args.sig.ty (map (part at (block_len c.args.sig)) rows)) at_is
    ∙ (combination-parts op c.args.sig.ty (c.args.r * count) count ((c.args.n - (c.args.r + 1)) * count) rows some long
    ∙ (ap (λ at. part at (block_len c.args.sig) (combination op c.args.sig.ty rows)) (mul_assoc c.args.r count w)
    ∙ sym (value-kind c.args.sig Rsblock rows c.args.r c.in-Rsblock.is))))) c.combined-in-Rsblock.result c.combined-in-Rsblock.ensures.ok

pub combined-requires-in-Scan-clause-parts : goal.combined-requires-in-Scan-clause-parts
combined-requires-in-Scan-clause-parts c = λ i within.
    let rows : List (List ℕ) = rows_of c.args.given.now in
    let at : i < length (take (c.from-in-Scan.result + 1) rows) = rw (rows_of-take c.args.given.now (c.from-in-Scan.result + 1)) at within in
    let long : length (row_of (take (c.from-in-Scan.result + 1) rows) i) ≡ block_len c.args.sig =
    ap length (row_of-take rows (c.from-in-Scan.result + 1) i at)
    ∙ length-given c.args.sig Scan c.args.n rows c.in-Scan.is c.requires.given i
    (omega (arith, c.requires.given.each, length-take-lt rows (c.from-in-Scan.result + 1) i at)) in
    rw (rows_of-take c.args.given.now (c.from-in-Scan.result + 1)) (omega (arith, long))

pub combined-requires-else-r-eq0-clause-parts : goal.combined-requires-else-r-eq0-clause-parts
combined-requires-else-r-eq0-clause-parts c = λ i within.
    let rows : List (List ℕ) = rows_of c.args.given.now in
    let at : i < length (take c.from-else-r-eq0.result rows) = rw (rows_of-take c.args.given.now c.from-else-r-eq0.result) at within in
    let long : length (row_of (take c.from-else-r-eq0.result rows) i) ≡ block_len c.args.sig =
    ap length (row_of-take rows c.from-else-r-eq0.result i at)
    ∙ length-given c.args.sig Exscan c.args.n rows c.in-Exscan.is c.requires.given i
    (omega (arith, c.requires.given.each, length-take-lt rows c.from-else-r-eq0.result i at)) in
    rw (rows_of-take c.args.given.now c.from-else-r-eq0.result) (omega (arith, long))

pub returns-in-Scan-clause-ok : goal.returns-in-Scan-clause-ok
returns-in-Scan-clause-ok c =
    let rows : List (List ℕ) = rows_of c.args.given.now in
    let op = unwrap_or c.args.sig.op Sum in
    let k : ℕ = c.from-in-Scan.result + 1 in
    let whole : map (part 0 (block_len c.args.sig)) (take k rows) ≡ take k rows =
    map-part_whole (block_len c.args.sig) (take k rows) (λ i within. ap length (row_of-take rows k i within)
    ∙ length-given c.args.sig Scan c.args.n rows c.in-Scan.is c.requires.given i (omega (arith, c.requires.given.each, length-take-lt rows k i within))) in
    IfOk-map _ _ (λ bytes is. is ∙ (ap (λ xs. combination op c.args.sig.ty (map (part 0 (block_len c.args.sig)) xs)) (rows_of-take c.args.given.now k)
    ∙ (ap (combination op c.args.sig.ty) whole
    ∙ (ap (λ r. combination op c.args.sig.ty (take (r + 1) rows)) c.from-in-Scan.ensures
    ∙ sym (value-kind c.args.sig Scan rows c.args.r c.in-Scan.is))))) c.combined-in-Scan.result c.combined-in-Scan.ensures.ok

pub returns-else-r-eq0-clause-ok : goal.returns-else-r-eq0-clause-ok
returns-else-r-eq0-clause-ok c =
    let rows : List (List ℕ) = rows_of c.args.given.now in
    let op = unwrap_or c.args.sig.op Sum in
    let k : ℕ = c.from-else-r-eq0.result in
    let whole : map (part 0 (block_len c.args.sig)) (take k rows) ≡ take k rows =
    map-part_whole (block_len c.args.sig) (take k rows) (λ i within. ap length (row_of-take rows k i within)
    ∙ length-given c.args.sig Exscan c.args.n rows c.in-Exscan.is c.requires.given i (omega (arith, c.requires.given.each, length-take-lt rows k i within))) in
    IfOk-map _ _ (λ bytes is. is ∙ (ap (λ xs. combination op c.args.sig.ty (map (part 0 (block_len c.args.sig)) xs)) (rows_of-take c.args.given.now k)
    ∙ (ap (combination op c.args.sig.ty) whole
    ∙ (ap (λ r. combination op c.args.sig.ty (take r rows)) c.from-else-r-eq0.ensures
    ∙ sym (value-kind c.args.sig Exscan rows c.args.r c.in-Exscan.is))))) c.combined-else-r-eq0.result c.combined-else-r-eq0.ensures.ok
