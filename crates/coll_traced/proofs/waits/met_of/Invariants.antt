use Rattle.coll_traced.specs.Stalls.{AreFree}
use Rattle.coll_traced.proofs.waits.met_of.Given as goal

abbrev pub invariant-loop-rank : goal.invariant-loop-rank
invariant-loop-rank l = AreFree l.core l.ports l.waiting l.rank l.met
