use Rattle.std.proofs.Common.{take}
use Rattle.coll_verdict.specs.Code.{IsSketch}
use Rattle.coll_verdict.specs.Sketches.{Sketch, naming}
use Rattle.coll_verdict.proofs.known.name_all.Given as goal

abbrev pub invariant-loop-index : goal.invariant-loop-index
invariant-loop-index l = (k : Sketch) → IsSketch l.initial.requests.items k → IsSketch l.requests.items (naming k (take l.index l.named))
