use Rattle.std.proofs.Common.{◌≡◌, ◌≤◌, ◌∙◌, ◌+◌, ◌-◌, ◌∷◌, [], ap, arith, length, refl, rules, sym}
use Rattle.std.proofs.lemmas.List.{length-append, nil_from_length}
use Rattle.coll_ops.specs.Values.{all_rows}
use Rattle.coll_sched.specs.Regions.{written}
use Rattle.coll_sched.proofs.Buffers.{length_written}
use Rattle.coll_core.proofs.values.PartedRows.{rest_long, row_within, written_next, written_none}
use Rattle.coll_core.proofs.buffer.Buffer.write_parts.Goals as goal

pub loop-part-init : goal.loop-part-init
loop-part-init c = record {
  count = sym c.as_slice-count.ensures.len ∙ ap length c.as_slice-count.ensures.value;
  size = refl;
  end_is = sym c.requires.same;
  within = omega arith;
  whole = refl;
}

pub overflow_sub-end : goal.overflow_sub-end
overflow_sub-end c =
    let within : length c.in-Some.part ≤ c.loop-part.end =
    row_within c.loop-part.self c.loop-part.self c.loop-part.self c.args.into
    c.pop.new.self.items c.loop-part.rest.items c.in-Some.part c.loop-part.end c.in-Some.ensures.items c.loop-part.invariant.end_is in
    omega (arith, within, c.len-len.ensures)

pub loop-part-preserved : goal.loop-part-preserved
loop-part-preserved c =
    let long : length c.loop-part.rest.items ≡ length c.pop.new.self.items + 1 =
    ap length c.in-Some.ensures.items ∙ length-append c.pop.new.self.items (c.in-Some.part ∷ []) in
    let within : length c.in-Some.part ≤ c.loop-part.end =
    row_within c.loop-part.self c.loop-part.self c.loop-part.self c.args.into
    c.pop.new.self.items c.loop-part.rest.items c.in-Some.part c.loop-part.end c.in-Some.ensures.items c.loop-part.invariant.end_is in
    let inside : c.args.into.at + c.args.into.len ≤ length c.loop-part.self = omega (arith, c.requires.inside, c.loop-part.invariant.size) in
    record {
      count = omega (arith, long, c.in-Some.ensures.cases, c.loop-part.invariant.count);
      size = ap length c.write.ensures
          ∙ (length_written c.loop-part.self (record { at = c.args.into.at + (c.loop-part.end - c.len-len.result); len = c.len-len.result })
          c.in-Some.part (omega (arith, inside, within, c.len-len.ensures, c.loop-part.invariant.within)) (sym c.len-len.ensures)
          ∙ c.loop-part.invariant.size);
      end_is = ap (λ n. c.loop-part.end - n) c.len-len.ensures
          ∙ rest_long c.loop-part.self c.loop-part.self c.loop-part.self c.args.into
          c.pop.new.self.items c.loop-part.rest.items c.in-Some.part c.loop-part.end c.in-Some.ensures.items c.loop-part.invariant.end_is;
      within = omega (arith, c.loop-part.invariant.within);
      whole = ap (λ n. written c.write.new.self (record { at = c.args.into.at; len = c.loop-part.end - n }) (all_rows c.pop.new.self.items)) c.len-len.ensures
          ∙ written_next c.loop-part.self c.write.new.self (written c.args.self.now c.args.into (all_rows c.args.parts.items)) c.args.into
          c.pop.new.self.items c.loop-part.rest.items c.in-Some.part c.loop-part.end c.in-Some.ensures.items c.loop-part.invariant.end_is
          (omega (arith, inside, c.loop-part.invariant.within)) c.loop-part.invariant.whole
          (c.write.ensures
          ∙ ap (λ n. written c.loop-part.self (record { at = c.args.into.at + (c.loop-part.end - n); len = n }) c.in-Some.part) c.len-len.ensures);
    }

pub returns : goal.returns
returns c =
    let empty : c.loop-part.rest.items ≡ [] = nil_from_length _ (search rules) in
    let none : c.loop-part.end ≡ 0 = c.loop-part.invariant.end_is ∙ ap (λ rows. length (all_rows rows)) empty in
    sym (written_none c.loop-part.self c.args.into.at)
    ∙ (λ z. written c.loop-part.self (record { at = c.args.into.at; len = sym none z }) (all_rows (sym empty z)))
    ∙ c.loop-part.invariant.whole
