use Rattle.std.proofs.Common.{map}
use Rattle.coll_traced.specs.Waits.{mark_in}
use Rattle.coll_traced.proofs.PortWaits.{kept-waiting}
use Rattle.coll_traced.proofs.waits.Waits.waiting.Goals as goal

pub returns : goal.returns
returns c =
    let s = c.self.inside in
    kept-waiting s.ports.items _ s.slots s.waiting c.args.self.now c.self.view_is c.self.invariant
