use Rattle.std.proofs.Common.{length, subst}
use Rattle.coll_traced.specs.Stalls.{AreFree}
use Rattle.coll_traced.proofs.PortWaits.{free-met}
use Rattle.coll_traced.proofs.waits.Waits.met.Goals as goal

pub returns : goal.returns
returns c =
    let s = c.self.inside in
    let p = c.args.core.now in
    let free = subst (λ ports. AreFree p ports s.waiting (length ports) c.met_of.result) c.deref.ensures.value c.met_of.ensures in
    free-met p s.ports.items _ s.slots s.waiting c.met_of.result c.args.self.now c.self.view_is c.self.invariant free
