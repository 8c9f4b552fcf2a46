use Rattle.std.proofs.Common.{ℕ, ◌∙◌}
use Rattle.coll_ops.proofs.Prefixes.{rows_of-more}
use Rattle.coll_ops.proofs.values.copies.Goals as goal

pub loop-member-preserved : goal.loop-member-preserved
loop-member-preserved c =
    rw c.in_ok-push.ensures.items
    (rows_of-more (λ (r : ℕ). c.args.row.now.items) c.loop-member.rows.items c.loop-member._member c.in_ok-from_slice.field-0
    c.loop-member.invariant (c.in_ok-from_slice.ensures.items ∙ c.deref.ensures.value))
