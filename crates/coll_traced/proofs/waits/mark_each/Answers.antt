use Rattle.std.proofs.Common.{◌≡◌, ◌<◌, length, ap, sym, ◌∙◌, arith}
use Rattle.std.proofs.lemmas.List.{length-map}
use Rattle.coll_traced.specs.Waits.{wait_in}
use Rattle.coll_traced.proofs.PortWaits.{marked_more, room-same, waits-same}
use Rattle.coll_traced.proofs.waits.mark_each.Goals as goal

pub loop-port-preserved : goal.loop-port-preserved
loop-port-preserved c =
    let ports = c.loop-port.ports in
    let i = c.loop-port.port-index in
    let port = c.mark.new.self in
    let same : length ports ≡ length c.args.ports.now =
    sym (length-map ports wait_in) ∙ (ap length c.loop-port.invariant.0 ∙ length-map c.args.ports.now wait_in) in
    let lt : i < length ports = omega arith in (
      waits-same ports i c.port-item.result port lt c.mark.ensures.wait ∙ c.loop-port.invariant.0,
      marked_more c.args.core.now ports i port lt c.mark.ensures.mark c.loop-port.invariant.1,
      λ slots all. room-same slots ports i c.port-item.result port lt c.mark.ensures.capacity (c.loop-port.invariant.2 slots all),
    )
