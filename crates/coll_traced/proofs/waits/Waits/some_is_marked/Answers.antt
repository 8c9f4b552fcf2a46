use Rattle.std.proofs.Common.{◌≡◌, ◌↔◌, subst}
use Rattle.std.specs.Prelude.{Any, IsTrue, true}
use Rattle.coll_traced.specs.Waits.{mark_in}
use Rattle.coll_traced.proofs.PortWaits.{any-marked}
use Rattle.coll_traced.proofs.waits.Waits.some_is_marked.Goals as goal

pub returns : goal.returns
returns c =
    let s = c.self.inside in
    let told = subst (λ ports. IsTrue c.some_is_marked.result ↔ Any (λ port. mark_in port ≡ true) ports) c.deref.ensures.value c.some_is_marked.ensures in
    any-marked s.ports.items s.slots c.args.self.now (IsTrue c.some_is_marked.result) c.self.view_is told
