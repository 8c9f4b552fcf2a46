use Rattle.std.proofs.Common.{◌≡◌, ◌≤◌, ◌*◌, take}
use Rattle.std.specs.Prelude.{sum_by}
use Rattle.coll_draw.proofs.drawing.bytes_of.Given as goal

abbrev pub invariant-loop-arrow : goal.invariant-loop-arrow
invariant-loop-arrow l =
    (l.bytes ≡ sum_by (λ arrow. arrow.len) (take l.arrow-index l.arrows)) × (l.bytes ≤ l.arrow-index * 4294967296)
