use Rattle.std.proofs.Common.{◌≡◌, length, List, ap, map, subst, sym, ◌∙◌, arith}
use Rattle.std.proofs.lemmas.List.{length-map}
use Rattle.coll_traced.specs.Stalls.{AreHeldUp}
use Rattle.coll_traced.specs.declared.port_wait.PortWait.{PortWait}
use Rattle.coll_traced.specs.Waits.{mark_in, wait_in}
use Rattle.coll_traced.proofs.PortWaits.{all-marked, written_whole}
use Rattle.coll_traced.proofs.waits.Waits.mark_waiting.Goals as goal

pub returns-clause-marks : goal.returns-clause-marks
returns-clause-marks c =
    let ports = c.mark_each.new.ports in
    let same : length ports ≡ length c.deref_mut.result.now =
    sym (length-map ports wait_in) ∙ (ap length c.mark_each.ensures.waits ∙ length-map c.deref_mut.result.now wait_in) in
    let long : length ports ≡ c.self.inside.ports.len = omega arith in
    subst (λ (all : List PortWait). AreHeldUp c.args.core.now (map wait_in all) (map mark_in all)) (sym (written_whole c.self.inside.ports.len ports _ long))
    (all-marked c.args.core.now ports c.mark_each.ensures.marks)
