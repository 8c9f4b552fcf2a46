use Rattle.std.proofs.Common.{arith, ◌≡◌, ◌∙◌, ap, length, length-take-le}
use Rattle.coll_core.proofs.values.NumberBytes.{bytes-number_again, bytes-next, bytes-behind, bytes-first}
use Rattle.coll_core.proofs.outcome.Outcome.i32s.Goals as goal

pub loop-first-preserved : goal.loop-first-preserved
loop-first-preserved c =
    let cases = c.in-Some.ensures.cases in
    let four : length c.in-Some.first.now ≡ 4 = ap length cases.0 ∙ length-take-le 4 c.loop-first.rest.now (omega arith) in
    let bytes = bytes-number_again c.in-Some.first.now c.from_le_bytes.result c.cast_signed.result four
    (bytes-first c.loop-first.rest.now _ cases.0 four c.loop-first.invariant.bytes) (omega arith) c.from_le_bytes.ensures c.cast_signed.ensures in
    record {
      read = bytes-next c.loop-first.numbers.items _ _ c.in-Some.first.now _ c.loop-first.rest.now _ c.loop-first.invariant.read
          cases.0 cases.1 bytes c.in_ok-push.ensures.items;
      left = omega arith;
      bytes = bytes-behind c.loop-first.rest.now _ cases.1 c.loop-first.invariant.bytes;
    }
