use Rattle.std.proofs.Common.{◌≡◌, ℕ, ◌+◌, eqb, map, sym, ap, subst, length-append}
use Rattle.std.specs.List.{range_with_len}
use Rattle.coll_diagnosis.proofs.HearingRounds.{each_more}
use Rattle.coll_diagnosis.proofs.hearing.alone.Goals as goal

pub loop-member-preserved : goal.loop-member-preserved
loop-member-preserved c =
    let row = c.in_ok-own_row.field-0 in
    let here = subst (λ (k : ℕ). row.items ≡ map (λ p. eqb p k) (range_with_len 0 c.args.n)) (sym c.loop-member.invariant.size) c.in_ok-own_row.ensures in
    record {
      size = rw (c.in_ok-push.ensures.items, length-append) (ap (λ (k : ℕ). k + 1) c.loop-member.invariant.size);
      each = λ r. rw c.in_ok-push.ensures.items
          (each_more (λ r row. row.items ≡ map (λ p. eqb p r) (range_with_len 0 c.args.n)) c.loop-member.rows.items row c.loop-member.invariant.each here r);
    }
