use Rattle.coll_traced.proofs.Stalling.{told-by}
use Rattle.coll_traced.proofs.traced_core.TracedCore.wake.Goals as goal

pub invariant_of-self : goal.invariant_of-self
invariant_of-self g c = (c.self.invariant.0, told-by _ _ _ _ _ c.args.rank _ c.self.invariant.1 c.put.ensures.waits c.put.ensures.marks)
