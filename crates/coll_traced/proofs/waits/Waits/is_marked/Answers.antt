use Rattle.std.proofs.Common.{◌≡◌, ◌∙◌, Some, None, ap, sym, arith, Bor}
use Rattle.std.specs.Prelude.{option_map, slice_get}
use Rattle.std.proofs.lemmas.Grind.{common_steps}
use Rattle.std.proofs.lemmas.Option.{gets}
use Rattle.coll_traced.specs.declared.port_wait.PortWait.{PortWait}
use Rattle.coll_traced.proofs.PortWaits.{marked-at, unmarked-at}
use Rattle.coll_traced.proofs.waits.Waits.is_marked.Goals as goal

pub returns-in-Some : goal.returns-in-Some
returns-in-Some c =
    let s = c.self.inside in
    let read : option_map (λ (port : Bor PortWait). port.now) c.get.result ≡ slice_get s.ports.items c.args.rank = grind (arith, common_steps, gets) in
    let there : slice_get s.ports.items c.args.rank ≡ Some c.in-Some.port.now =
    sym read ∙ ap (λ o. option_map (λ (port : Bor PortWait). port.now) o) c.in-Some.is in
    marked-at s.ports.items s.slots c.args.self.now c.args.rank c.in-Some.port.now c.is_marked.result c.self.view_is there c.is_marked.ensures

pub returns-in-None : goal.returns-in-None
returns-in-None c =
    let s = c.self.inside in
    let read : option_map (λ (port : Bor PortWait). port.now) c.get.result ≡ slice_get s.ports.items c.args.rank = grind (arith, common_steps, gets) in
    let none : slice_get s.ports.items c.args.rank ≡ None = sym read ∙ ap (λ o. option_map (λ (port : Bor PortWait). port.now) o) c.in-None.is in
    unmarked-at s.ports.items s.slots c.args.self.now c.args.rank c.self.view_is none
