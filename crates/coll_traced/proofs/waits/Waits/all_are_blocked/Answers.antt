use Rattle.std.proofs.Common.{◌↔◌, subst}
use Rattle.std.specs.Prelude.{All, IsTrue}
use Rattle.coll_traced.specs.Waits.{wait_in}
use Rattle.coll_traced.specs.Stalls.{IsBlocked}
use Rattle.coll_traced.proofs.PortWaits.{all-waits}
use Rattle.coll_traced.proofs.waits.Waits.all_are_blocked.Goals as goal

pub returns : goal.returns
returns c =
    let s = c.self.inside in
    let p = c.args.core.now in
    let told = subst (λ ports. IsTrue c.all_are_blocked.result ↔ All (λ port. IsBlocked p (wait_in port)) ports)
    c.deref.ensures.value c.all_are_blocked.ensures in
    all-waits (IsBlocked p) s.ports.items _ s.slots c.args.self.now (IsTrue c.all_are_blocked.result) c.self.view_is told
