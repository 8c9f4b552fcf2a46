use Rattle.std.proofs.Common.{◌<◌, ◌∙◌, length, sym, arith}
use Rattle.coll_core.specs.Cores.{seen, setting}
use Rattle.coll_serial.proofs.Outcomes.{length_for, named_low}
use Rattle.coll_serial.proofs.Keeping.{looked_up}
use Rattle.coll_serial.proofs.engine.Engine.outcome_len.Goals as goal

pub index-requires : goal.index-requires
index-requires c =
    let p = c.self.inside.core in
    let low : c.in-Some.ticket.slot < length c.self.inside.outcome_lengths.items =
    named_low (setting p) (seen p) c.in-Some.ticket c.in-Ok.field-0 c.self.inside.outcome_lengths.items c.self.invariant.measured c.in-Ok.ensures.phase in
    omega (arith, low, c.self.inside.outcome_lengths.ok)

pub returns-in-Ok-clause-len : goal.returns-in-Ok-clause-len
returns-in-Ok-clause-len c =
    let p = c.self.inside.core in let lengths = c.self.inside.outcome_lengths.items in
    let low = named_low (setting p) (seen p) c.in-Some.ticket c.in-Ok.field-0 lengths c.self.invariant.measured c.in-Ok.ensures.phase in
    length_for p c.args.self.now c.self.view_is c.args.request.now c.in-Some.ticket (sym c.ticket.ensures ∙ c.in-Some.is) lengths
    c.in-Ok.field-0 c.index.result.now
    c.self.invariant.measured c.in-Ok.ensures.phase (looked_up lengths c.in-Some.ticket.slot c.index.result.now low c.index.ensures)
