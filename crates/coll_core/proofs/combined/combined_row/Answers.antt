use Rattle.std.proofs.Common.{◌≡◌, ◌≤◌, ◌+◌, ◌%◌, length, ap, ◌∙◌, arith}
use Rattle.coll_kinds.specs.Elements.{width}
use Rattle.coll_ops.proofs.RowLists.{length-combined}
use Rattle.coll_core.proofs.commit.CombinedRows.{block-whole, front-more, front-whole, rows-whole}
use Rattle.coll_core.proofs.combined.combined_row.Goals as goal

pub loop-done-preserved : goal.loop-done-preserved
loop-done-preserved c =
    let len = length c.args.left.now in
    let block : c.min.result % width c.args.ty ≡ 0 =
    block-whole c.args.ty len c.loop-done.done c.min.result c.requires.whole c.loop-done.invariant.whole c.loop-done.invariant.within c.min.ensures in
    let within : c.loop-done.done + c.min.result ≤ length c.args.left.now = omega (arith, c.min.ensures, c.loop-done.invariant.within) in
    record {
      within = within;
      whole = rows-whole c.args.ty c.loop-done.done c.min.result c.loop-done.invariant.whole block;
      front = front-more c.args.op c.args.ty c.args.left.now c.args.right.now c.loop-done.row.items
          c.append_combination.new.row.items c.loop-done.done c.min.result
          c.requires.whole c.requires.same c.loop-done.invariant.whole block within c.loop-done.invariant.front c.in_ok-append_combination.ensures;
    }

pub returns-clause-is : goal.returns-clause-is
returns-clause-is c =
    front-whole c.args.op c.args.ty c.args.left.now c.args.right.now c.loop-done.row.items c.loop-done.done c.requires.whole
    c.loop-done-test.false c.loop-done.invariant.front

pub returns-clause-long : goal.returns-clause-long
returns-clause-long c =
    ap length (front-whole c.args.op c.args.ty c.args.left.now c.args.right.now c.loop-done.row.items c.loop-done.done
    c.requires.whole c.loop-done-test.false c.loop-done.invariant.front)
    ∙ length-combined c.args.op c.args.ty c.args.left.now c.args.right.now c.requires.whole
