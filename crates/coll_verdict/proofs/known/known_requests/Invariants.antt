use Rattle.coll_verdict.specs.Sketches.{sketch_at}
use Rattle.coll_verdict.specs.Code.{IsSketch}
use Rattle.coll_verdict.proofs.known.known_requests.Given as goal

abbrev pub invariant-loop-index : goal.invariant-loop-index
invariant-loop-index l = IsSketch l.requests.items (sketch_at l.commands l.index)
