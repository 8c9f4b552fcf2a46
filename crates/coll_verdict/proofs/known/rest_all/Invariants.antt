use Rattle.std.proofs.Common.{take}
use Rattle.coll_verdict.specs.Code.{IsSketch}
use Rattle.coll_verdict.specs.Sketches.{Sketch, resting}
use Rattle.coll_verdict.proofs.known.rest_all.Given as goal

abbrev pub invariant-loop-index : goal.invariant-loop-index
invariant-loop-index l = (k : Sketch) → IsSketch l.initial.requests.items k → IsSketch l.requests.items (resting k (take l.index l.named))
