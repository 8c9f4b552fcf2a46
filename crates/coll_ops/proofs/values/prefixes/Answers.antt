use Rattle.std.proofs.Common.{◌≡◌, ◌<◌, ◌%◌, List, ℕ, length, map, ap, sym, subst, ◌∙◌, arith, below_more, rules}
use Rattle.std.specs.List.{range_with_len}
use Rattle.std.proofs.Math.Nat.{mul-mod_left}
use Rattle.coll_kinds.specs.Common.{width, AreBytes, block_len}
use Rattle.coll_ops.specs.Contributions.{rows_of}
use Rattle.coll_ops.specs.Values.{row_of}
use Rattle.coll_ops.proofs.RowLists.{row_of-rows_of, length-rows_of}
use Rattle.coll_ops.proofs.Given.{length-item}
use Rattle.coll_ops.proofs.Prefixes.{AreRead, prefix, length-prefix, prefix-made, length-made, row_of-made, rows_of-more}
use Rattle.coll_ops.proofs.values.prefixes.Goals as goal

pub next_prefix-requires-clause-whole : goal.next_prefix-requires-clause-whole
next_prefix-requires-clause-whole c =
    let long : length c.as_slice.result.now ≡ block_len c.args.sig =
    ap length c.as_slice.ensures.value
    ∙ (length-item c.args.rows.now c.loop-row.row-index c.row-item.result c.loop-row-test.true c.row-item.is
    ∙ c.requires.long c.loop-row.row-index c.loop-row-test.true) in
    ap (λ n. n % width c.args.sig.ty) long ∙ mul-mod_left c.args.sig.count (width c.args.sig.ty)

pub next_prefix-requires-clause-alike : goal.next_prefix-requires-clause-alike
next_prefix-requires-clause-alike c = λ i within.
    let rows : List (List ℕ) = rows_of c.args.rows.now in
    let n : ℕ = c.loop-row.row-index in
    let long : length c.as_slice.result.now ≡ block_len c.args.sig =
    ap length c.as_slice.ensures.value
    ∙ (length-item c.args.rows.now n c.row-item.result c.loop-row-test.true c.row-item.is ∙ c.requires.long n c.loop-row-test.true) in
    let are : AreRead c.args.sig.ty (block_len c.args.sig) n rows = record {
      whole = mul-mod_left c.args.sig.count (width c.args.sig.ty);
      long = λ k lt. c.requires.long k (omega (arith, length-rows_of c.args.rows.now));
      bytes = c.loop-row.invariant.bytes;
    } in
    let is : rows_of c.deref.result.now ≡ map (prefix c.in-Some.op c.args.sig.ty rows) (range_with_len 0 n) =
    ap rows_of c.deref.ensures.value ∙ c.loop-row.invariant.sums_are in
    let lt : i < n = omega (arith, length-made (prefix c.in-Some.op c.args.sig.ty rows) c.deref.result.now n is) in
    ap length (row_of-made (prefix c.in-Some.op c.args.sig.ty rows) c.deref.result.now n i is lt)
    ∙ (length-prefix c.in-Some.op c.args.sig.ty (block_len c.args.sig) n i rows are lt (omega (arith, c.loop-row-test.true, length-rows_of c.args.rows.now))
    ∙ sym long)

pub loop-row-preserved : goal.loop-row-preserved
loop-row-preserved c =
    let rows : List (List ℕ) = rows_of c.args.rows.now in
    let n : ℕ = c.loop-row.row-index in
    let are : AreRead c.args.sig.ty (block_len c.args.sig) n rows = record {
      whole = mul-mod_left c.args.sig.count (width c.args.sig.ty);
      long = λ k lt. c.requires.long k (omega (arith, length-rows_of c.args.rows.now));
      bytes = c.loop-row.invariant.bytes;
    } in
    let row : c.as_slice.result.now ≡ row_of rows n =
    c.as_slice.ensures.value ∙ sym (row_of-rows_of c.args.rows.now n c.row-item.result c.loop-row-test.true c.row-item.is) in
    let is : rows_of c.deref.result.now ≡ map (prefix c.in-Some.op c.args.sig.ty rows) (range_with_len 0 n) =
    ap rows_of c.deref.ensures.value ∙ c.loop-row.invariant.sums_are in
    let sum : c.in_ok-sum.sum.items ≡ prefix c.in-Some.op c.args.sig.ty rows n =
    prefix-made c.in-Some.op c.args.sig.ty (block_len c.args.sig) n rows c.deref.result.now c.as_slice.result.now
    c.in_ok-sum.sum.items (search rules) are (omega (arith, c.loop-row-test.true, length-rows_of c.args.rows.now)) is row c.next_prefix.ensures.bytes
    c.in_ok-sum.ensures.first c.in_ok-sum.ensures.next in
    record {
      sums_are = rw c.in_ok-push.ensures.items
          (rows_of-more (prefix c.in-Some.op c.args.sig.ty rows) c.loop-row.sums.items n c.in_ok-sum.sum c.loop-row.invariant.sums_are sum);
      bytes = below_more (λ k. AreBytes (row_of rows k)) n c.loop-row.invariant.bytes (subst AreBytes row c.next_prefix.ensures.bytes);
    }
