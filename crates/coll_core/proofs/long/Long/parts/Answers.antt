use Rattle.std.proofs.Common.{◌≡◌, ◌∙◌, ◌+◌, ap, arith, length, sym}
use Rattle.coll_ops.specs.Values.{all_rows}
use Rattle.coll_sched.specs.Regions.{read_of}
use Rattle.coll_bytes.specs.Contents.{Contents}
use Rattle.coll_core.proofs.values.PartedRows.{part_inside, part_some, part_within, parts_next}
use Rattle.coll_core.proofs.long.Long.parts.Goals as goal

pub part-requires : goal.part-requires
part-requires c =
    let size : length c.loop-done.self.segments.bytes ≡ length c.args.self.now.segments.bytes =
    ap (λ (s : Contents). length s.bytes) c.loop-done.invariant.same in
    part_inside c.loop-done.self.segments.bytes c.args.from c.part_behind-piece.result c.loop-done.done c.args.unit
    c.part_behind-piece.ensures c.loop-done-test.true c.requires.some (omega (arith, size, c.requires.inside))

pub overflow_add-done : goal.overflow_add-done
overflow_add-done c =
    let within = part_within c.loop-done.self.segments.bytes c.args.from c.part_behind-piece.result c.loop-done.done c.args.unit
    c.part_behind-piece.ensures c.loop-done-test.true c.requires.some in
    omega (arith, within, c.requires.inside, c.size-size.ensures)

pub loop-done-preserved : goal.loop-done-preserved
loop-done-preserved c = record {
  within = part_within c.loop-done.self.segments.bytes c.args.from c.part_behind-piece.result c.loop-done.done c.args.unit
      c.part_behind-piece.ensures c.loop-done-test.true c.requires.some;
  front = ap all_rows c.in_ok-push.ensures.items
      ∙ (parts_next c.loop-done.self.segments.bytes c.args.from c.part_behind-piece.result c.loop-done.done c.args.unit
      c.part_behind-piece.ensures c.loop-done-test.true c.requires.some
      c.loop-done.parts.items c.in_ok-part.part c.loop-done.invariant.front c.in_ok-part.ensures.ok
      ∙ ap (λ (s : Contents). read_of s.bytes (record { at = c.args.from.at; len = c.loop-done.done + c.part_behind-piece.result.len }))
      (sym c.in_ok-part.ensures.same));
  same = c.in_ok-part.ensures.same ∙ c.loop-done.invariant.same;
}

pub loop-done-smaller : goal.loop-done-smaller
loop-done-smaller c =
    let within = part_within c.loop-done.self.segments.bytes c.args.from c.part_behind-piece.result c.loop-done.done c.args.unit
    c.part_behind-piece.ensures c.loop-done-test.true c.requires.some in
    let some = part_some c.loop-done.self.segments.bytes c.args.from c.part_behind-piece.result c.loop-done.done c.args.unit
    c.part_behind-piece.ensures c.loop-done-test.true c.requires.some in
    omega (arith, within, some)

pub returns-clause-ok : goal.returns-clause-ok
returns-clause-ok c =
    let all : c.loop-done.done ≡ c.args.from.len = omega (arith, c.loop-done-test.false, c.loop-done.invariant.within) in
    let same : c.loop-done.self.segments ≡ c.args.self.now.segments = c.loop-done.invariant.same in
    let bytes : c.loop-done.self.segments.bytes ≡ c.args.self.now.segments.bytes = ap (λ (s : Contents). s.bytes) same in
    c.loop-done.invariant.front ∙ (λ z. read_of (bytes z) (record { at = c.args.from.at; len = all z }))
